-- A text for each of a program's first slots.
use Rattle.std.specs.Prelude.{ℕ, List, [], Option, Some, None, Vec, slice_get}
use Rattle.std.specs.Borrow.{Bor}
use Rattle.std.specs.Option.{option_map_or}
use Rattle.std.specs.declared.alloc.Global.{Global}

-- Of a program there may be none.
abbrev pub SlotTexts : Type 0
SlotTexts = Option (Bor (List (Vec ℕ Global)))

-- That of a slot: no byte where there is none.
abbrev pub text_of_slot : SlotTexts → ℕ → List ℕ
text_of_slot None slot = []
text_of_slot (Some texts) slot = option_map_or (λ text. text.items) (slice_get texts.now slot) []
