-- The bytes that a stream tells, over several writes.
use Rattle.std.proofs.Common.{◌≡◌, ◌+◌, ℕ, List, ◌++◌, take, drop, Option, None, Some, sym, ap, ◌∙◌, append_assoc, length, ◌-◌, length-drop}
use Rattle.std.proofs.Math.Seq.{take-add, take-length}
use Rattle.std.specs.Io.KnownBytes.{Appends, Keeps}

-- a write of what follows the first so many bytes
pub Appends-more : (first before now : Option (List ℕ)) (bytes : List ℕ) (done n : ℕ) → Appends first before (take done bytes) → Appends before now (take n (drop done bytes)) → Appends first now (take (done + n) bytes)
Appends-more None before now bytes done n e h = tt
Appends-more (Some xs) None now bytes done n e h = absurd e
Appends-more (Some xs) (Some ys) None bytes done n e h = absurd h
Appends-more (Some xs) (Some ys) (Some zs) bytes done n e h =
    h ∙ ap (λ b. b ++ take n (drop done bytes)) e ∙ append_assoc xs (take done bytes) (take n (drop done bytes)) ∙ ap (λ b. xs ++ b) (sym (take-add done n bytes))

-- a call that writes nothing
pub Appends-kept : (first before now : Option (List ℕ)) (bytes : List ℕ) → Appends first before bytes → Keeps before now → Appends first now bytes
Appends-kept None before now bytes e h = tt
Appends-kept (Some xs) None now bytes e h = absurd e
Appends-kept (Some xs) (Some ys) None bytes e h = absurd h
Appends-kept (Some xs) (Some ys) (Some zs) bytes e h = h ∙ e

-- all of what follows the first so many bytes
pub rest_whole : (bytes : List ℕ) (done : ℕ) → take (length bytes - done) (drop done bytes) ≡ drop done bytes
rest_whole bytes done = ap (λ k. take k (drop done bytes)) (sym (length-drop done bytes)) ∙ take-length (drop done bytes)
