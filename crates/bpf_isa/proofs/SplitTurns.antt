-- The turns of a loop over the parts of a slice.
use Rattle.std.proofs.Common.{◌≡◌, ◌<◌, Bool, false, List, Option, Some, None, length, get_or}
use Rattle.std.specs.Borrow.{Bor}
use denote.Param.Members.{Mut}
use Rattle.std.specs.Fn.{CalledAt}
use Rattle.std.specs.Iterator.{Yields}
use Rattle.std.specs.List.{slice_split}
use Rattle.std.specs.Slice.Iter as slice
use Rattle.std.proofs.lemmas.Iterator.Splits.{YieldsList-from_slice_split}
use Rattle.std.proofs.lemmas.Iterator.Consumers.{YieldsList-turn, YieldsList-end}

-- this turn's part
pub split_turn : {A F : Type 0} (s t : _) (g : Mut F (Bor A × Unit {0}) Bool) (p : A → Bool) {f : F} (xs : List A) (ys : List (Bor (List A))) → Yields (slice.split_steps g) s ys t → slice.split_rest s ≡ xs → slice.split_done s ≡ false → slice.split_callee s ≡ f → (r : Option (Bor (List A))) (u : _) (x : Bor (List A)) → r ≡ Some x → slice.split_steps g t r u → ((x : A) (b : Bool) (q : F) → CalledAt g f x b q → (q ≡ f) × (b ≡ p x)) → (length ys < length (slice_split p xs)) × (x.now ≡ get_or (slice_split p xs) (length ys) x.now)
split_turn s t g p xs ys yielded rest done callee r u x is step tests =
    YieldsList-turn (YieldsList-from_slice_split g p xs rest done callee tests) ys _ yielded r u x is step

-- after the last part
pub split_end : {A F : Type 0} (s t : _) (g : Mut F (Bor A × Unit {0}) Bool) (p : A → Bool) {f : F} (xs : List A) (ys : List (Bor (List A))) → Yields (slice.split_steps g) s ys t → slice.split_rest s ≡ xs → slice.split_done s ≡ false → slice.split_callee s ≡ f → (r : Option (Bor (List A))) (u : _) → r ≡ None → slice.split_steps g t r u → ((x : A) (b : Bool) (q : F) → CalledAt g f x b q → (q ≡ f) × (b ≡ p x)) → length ys ≡ length (slice_split p xs)
split_end s t g p xs ys yielded rest done callee r u is step tests =
    (YieldsList-end (YieldsList-from_slice_split g p xs rest done callee tests) ys _ yielded r u is step).1
