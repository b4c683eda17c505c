-- What follows of bytes that were read or written one piece after the other.
use Rattle.std.proofs.Common.{◌≡◌, ℕ, ◌+◌, ◌-◌, ◌<◌, ◌≤◌, List, ◌++◌, length, take, drop, Option, Some, None, IfSome, refl, sym, ap, ◌∙◌, append_assoc, take-append-drop, length-append, length-take, arith}
use Rattle.std.specs.Io.KnownBytes.{Appends, Consumes, IsAtEnd}
use Rattle.std.proofs.KnownBytes.{Consumes-trans, Consumes-whole, Appends-trans}
use Rattle.zy_top_words.specs.Ends.{AppendsUpTo}

-- what was read and is more than so many was there
pub Consumes-lt : (a b : Option (List ℕ)) (bytes : List ℕ) (n : ℕ) → Consumes a b bytes → n < length bytes → IfSome a (λ all. n < length all)
Consumes-lt None b bytes n consumed lt = tt
Consumes-lt (Some all) None bytes n consumed lt = absurd consumed
Consumes-lt (Some all) (Some rest) bytes n consumed lt = omega (arith, ap length consumed, length-append bytes rest)

-- one piece more was read, and with it more bytes than so many
pub more_than : (a b c : Option (List ℕ)) (text piece : List ℕ) (k n : ℕ) → Consumes a b text → Consumes b c (take k piece)
    → k ≤ length piece → n < length text + k → IfSome a (λ all. n < length all)
more_than a b c text piece k n before now within lt =
    Consumes-lt a c (text ++ take k piece) n (Consumes-trans a b c _ _ before now) (omega (arith, length-append text (take k piece), length-take k piece))

-- the sink took the front of the rest
pub AppendsUpTo-more : (a b c : Option (List ℕ)) (bytes rest left : List ℕ) (k : ℕ) → AppendsUpTo a b bytes rest → Appends b c (take k rest)
    → left ≡ drop k rest → AppendsUpTo a c bytes left
AppendsUpTo-more a b c bytes rest left k sent took is = record {
  front = sent.front ++ take k rest;
  whole = sent.whole ∙ ap (λ l. sent.front ++ l) (sym (take-append-drop k rest)) ∙ sym (append_assoc sent.front (take k rest) (drop k rest)) ∙ ap (λ l. (sent.front ++ take k rest) ++ l) (sym is);
  taken = Appends-trans a b c _ _ sent.taken took;
}

-- what was read up to the end is all that was there
pub read_whole : (a b : Option (List ℕ)) (bytes : List ℕ) → Consumes a b bytes → IsAtEnd b → IfSome a (λ all. bytes ≡ all)
read_whole a b bytes consumed end = Consumes-whole a b bytes (λ all. bytes ≡ all) consumed end refl

-- a piece that fits beside a text makes no text that is too long
pub length-grown-le : (text piece : List ℕ) (k n : ℕ) → k ≤ n - length text → length text ≤ n → length (text ++ take k piece) ≤ n
length-grown-le text piece k n fits within = omega (arith, length-append text (take k piece), length-take k piece)
