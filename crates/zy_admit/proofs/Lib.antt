mod FilledLemmas
