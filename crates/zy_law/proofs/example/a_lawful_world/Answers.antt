use Rattle.std.proofs.Common.{refl}
use Rattle.zy_law.specs.Example.{first_answer}
use Rattle.zy_law.specs.Fixed.IsFixed.{fast, slow}
use Rattle.zy_law.proofs.ExampleLemmas.{example_conduct, fast_backed, slow_certified, slow_backed, example_new, example_choice, example_stands}
use Rattle.zy_law.proofs.example.a_lawful_world.Goals as goal

pub returns : goal.returns
returns c =
    record {
      size = (refl, refl);
      lawful = example_conduct.lawful;
      conduct = example_conduct;
      fast = (first_answer, fast_backed);
      slow = (slow_certified, slow_backed);
      fixed = (fast first_answer fast_backed, slow slow_certified slow_backed);
      valid = example_new;
      choice = example_choice;
      stands = example_stands;
    }
