-- States that differ at one place and whose steps write other values: the ground of the law that each read matters.
use Rattle.std.proofs.Common.{◌≡◌, ◌≢◌, ◌≤◌, ◌<◌, ◌⊎◌, ℕ, zero, suc, ◌+◌, ◌*◌, ◌^◌, List, [], ◌∷◌, length, take, false, Option, Some, None, refl, sym, ap, subst, ◌∙◌, inl, inr, arith, get_or, get_or-set_other}
use Rattle.std.specs.Prelude.{All, IsSome, ◌==◌, ◌&&◌, ◌||◌, nat_lt, nat_le, unwrap_or, is_some, slice_get, slice_index, slice_set, if◌then◌else◌}
use Rattle.std.specs.Option.{option_map_or}
use Rattle.std.proofs.lemmas.Bool.{cases_lt}
use Rattle.std.proofs.lemmas.Bool.Decides.{nat_tests}
use Rattle.std.proofs.lemmas.Grind.{elements, get_or-set_at}
use Rattle.std.proofs.lemmas.List.{length-set}
use Rattle.std.proofs.lemmas.List.Elements.{All-set, All-take, All-drop, All-append}
use Rattle.bpf_isa.specs.Programs.{insn_at}
use Rattle.bpf_isa.specs.declared.instruction.Insn.{Insn}
use Rattle.bpf_entries.specs.Status.{has_ended}
use Rattle.bpf_machine.specs.declared.edit.Edit.TheVariants as edit
use Rattle.bpf_machine.specs.declared.edit.EditFault.TheVariants.{AddressNotPresent}
use Rattle.bpf_machine.specs.declared.moves.Move.TheVariants as move
use Rattle.bpf_steps.specs.Access.{accessible}
use Rattle.bpf_steps.specs.ByAddress.{byte_at, sum_at}
use Rattle.bpf_machine.specs.Edits.{IsEditable, unless, with_run, replaced_run, edited, edit_entry}
use Rattle.bpf_steps.specs.Platform.{frame_base, frame_len, frame_pointer}
use Rattle.bpf_machine.specs.Moves.{Leads}
use Rattle.bpf_steps.specs.Next.{next}
use Rattle.bpf_steps.specs.Regions.{Image, IsImage, index_of, is_from_frame, number_at, paste, put, with_bytes}
use Rattle.bpf_steps.specs.State.{State, IsState, register, depth}
use Rattle.bpf_steps.proofs.ByAddress.{fits_within, law_runs, law_stores, law_numbers}
use Rattle.bpf_steps.proofs.Indices.{frame_at, in_context_below}
use Rattle.bpf_machine.proofs.StepLaws.{below_ten}
use Rattle.bpf_origin.specs.declared.place.Place.{Place}
use Rattle.bpf_origin.specs.declared.place.Place.TheVariants.{Register, Word, Byte}
use Rattle.bpf_origin.specs.declared.place.Part.{Part}
use Rattle.bpf_origin.specs.Laws.{StandAlike}
use Rattle.bpf_origin.specs.Matters.{DifferAt, places}
use Rattle.bpf_origin.specs.Places.{IsPlace, depth_for, value, same}
use Rattle.bpf_origin.specs.Wanted.{is_in}
use Rattle.bpf_origin.specs.Writes.{writes}
use Rattle.bpf_origin.proofs.Keeping.{edit_places}
use Rattle.bpf_origin.proofs.Writing.{some_index, run_count}

-- A register, and bytes from an address on, changed by hand.
abbrev pub with_register : State → ℕ → ℕ → State
with_register s r v = record s { registers = slice_set s.registers r v }

pub register_here : (s : State) (r v : ℕ) → IsState s → r < 10 → register (with_register s r v) r ≡ v
register_here s r v is low = below_ten (with_register s r v) r _ low ∙ get_or-set_at s.registers r r v 0 refl (omega (arith, low, is.ten))

pub register_else : (s : State) (r v q : ℕ) → q ≢ r → register (with_register s r v) q ≡ register s q
register_else s r v q other = ap (λ n. if nat_lt q 10 then n else frame_pointer (depth s)) (get_or-set_other s.registers r q v 0 other)

pub register_is : (s : State) (r v : ℕ) → IsState s → v < 2 ^ 64 → IsState (with_register s r v)
register_is s r v is low = record {
  checked = is.checked;
  start = is.start;
  ten = length-set s.registers r v ∙ is.ten;
  numbers = All-set (λ n. n < 2 ^ 64) s.registers r v low is.numbers;
  shallow = is.shallow;
  framed = is.framed;
  image = is.image;
  mapped = is.mapped;
  bytes = is.bytes;
  traced = is.traced;
  words = is.words;
  ends = is.ends;
}

-- Memory with other bytes.
pub put_found : (m : Image) (a at : ℕ) (new : List ℕ) → index_of m a (length new) ≡ Some at → put m a (length new) new ≡ with_bytes m at new
put_found m a at new found = ap (λ o. option_map_or (λ k. with_bytes m k new) o m) found

pasted_length : (old new : List ℕ) (at : ℕ) → at + length new ≤ length old → length (paste old at new) ≡ length old
pasted_length old new at fits = grind (arith, elements)

with_bytes_is : (m : Image) (a at : ℕ) (new : List ℕ) → IsImage m → index_of m a (length new) ≡ Some at → IsImage (with_bytes m at new)
with_bytes_is m a at new is found = record {
  short = is.short;
  tables = is.tables;
  whole = pasted_length m.bytes new at (fits_within m is a (length new) at found) ∙ is.whole;
}

all_pasted : (old new : List ℕ) (at : ℕ) → All (λ byte. byte < 256) old → All (λ byte. byte < 256) new → All (λ byte. byte < 256) (paste old at new)
all_pasted old new at small also =
    All-take (λ byte. byte < 256) (length old) _
    (All-append (λ byte. byte < 256) (take at old) _ (All-take (λ byte. byte < 256) at old small)
    (All-append (λ byte. byte < 256) new _ also (All-drop (λ byte. byte < 256) (at + length new) old small)))

run_is : (s : State) (a at : ℕ) (new : List ℕ) → IsState s → index_of s.memory a (length new) ≡ Some at → All (λ byte. byte < 256) new → IsState (with_run s a new)
run_is s a at new is found small =
    let same = sym (put_found s.memory a at new found) in
    record {
      checked = is.checked;
      start = is.start;
      ten = is.ten;
      numbers = is.numbers;
      shallow = is.shallow;
      framed = is.framed;
      image = subst IsImage same (with_bytes_is s.memory a at new is.image found);
      mapped = ap (λ (m : Image). m.maps) (sym same) ∙ is.mapped;
      bytes = subst (λ (m : Image). All (λ byte. byte < 256) m.bytes) same (all_pasted s.memory.bytes new at is.bytes small);
      traced = is.traced;
      words = is.words;
      ends = is.ends;
    }

-- Such a change leaves all other places as they are.
able_register : (s : State) (r v : ℕ) → r < 10 → IsEditable s (edit.Register r v)
able_register s r v low = grind (arith, nat_tests)

register_place : (s : State) (r v : ℕ) (p : Place) → IsPlace s p → IsPlace (with_register s r v) p
register_place s r v (Register d q) there = there
register_place s r v (Word k) there = there
register_place s r v (Byte a) there = there

register_agrees : (s : State) (r v : ℕ) (p : Place) → IsState s → r < 10 → IsPlace s p → same (Register (depth_for (depth s) r) r) p ≡ false → value (with_register s r v) p ≡ value s p
unfolding edited edit_entry
register_agrees s r v p is low there other =
    edit_places s (edit.Register r v) is (able_register s r v low) p (register_place s r v p there) (ap (λ b. b || false) other)

pub present : (o : Option ℕ) (at : ℕ) → o ≡ Some at → IsSome o
present None at e = cc
present (Some k) at e = refl

able_bytes : (o : Option ℕ) (at : ℕ) → o ≡ Some at → unless (is_some o) AddressNotPresent ≡ None
able_bytes None at e = cc
able_bytes (Some k) at e = refl

run_place : (s : State) (a : ℕ) (new : List ℕ) (p : Place) → IsPlace s p → IsPlace (with_run s a new) p
run_place s a new (Register d q) there = there
run_place s a new (Word k) there = there
run_place s a new (Byte b) there = there

outside : (a b n : ℕ) → n ≡ 1 → (a == b) ≡ false → (nat_le a b && nat_lt b (a + n)) ≡ false
outside a b n e other = grind (arith, nat_tests)

unwritten : (s : State) (a v : ℕ) (p : Place) → same (Byte a) p ≡ false → length (replaced_run s a (v ∷ [])) ≡ 1 → writes (edited s (edit.Bytes a (v ∷ []))) (edit_entry s (edit.Bytes a (v ∷ []))) p ≡ false
unfolding edited edit_entry
unwritten s a v (Register d q) other count = refl
unwritten s a v (Word k) other count = refl
unwritten s a v (Byte b) other count = ap (λ t. t || false) (outside a b (length (replaced_run s a (v ∷ []))) count other)

byte_agrees : (s : State) (a at v : ℕ) (p : Place) → IsState s → IsPlace s p → same (Byte a) p ≡ false → index_of s.memory a 1 ≡ Some at → value (with_run s a (v ∷ [])) p ≡ value s p
unfolding edited edit_entry
byte_agrees s a at v p is there other found =
    edit_places s (edit.Bytes a (v ∷ [])) is (able_bytes (index_of s.memory a 1) at found) p (run_place s a (v ∷ []) p there) (unwritten s a v p other (run_count s.memory a 1 (v ∷ []) is.image (present (index_of s.memory a 1) at found)))

pub one_small : (v : ℕ) → v < 256 → All (λ byte. byte < 256) (v ∷ [])
one_small v low = λ k d within. at_first k d within
  where
    at_first : (k d : ℕ) → k < 1 → get_or (v ∷ []) k d < 256
    at_first zero d within = low
    at_first (suc k) d within = absurd (omega (arith, within))

-- States made by hand from x, at an instruction where x stands.
pub record Ready (x : State) (i : Insn) (s : State) : Type 0 where
  pub is : IsState s
  pub running : has_ended s.status ≡ false
  pub at : insn_at s.program s.pc ≡ Some i
  pub alike : StandAlike x s

module _ (x : State) (i : Insn) where
  pub ready : IsState x → has_ended x.status ≡ false → insn_at x.program x.pc ≡ Some i → Ready x i x
  ready is running here = record { is = is; running = running; at = here; alike = record { program = refl; pc = refl; returns = refl; context = refl; words = refl } }

  pub ready_register : (s : State) (r v : ℕ) → v < 2 ^ 64 → Ready x i s → Ready x i (with_register s r v)
  ready_register s r v low t = record {
    is = register_is s r v t.is low;
    running = t.running;
    at = t.at;
    alike = record { program = t.alike.program; pc = t.alike.pc; returns = t.alike.returns; context = t.alike.context; words = t.alike.words };
  }

  pub ready_run : (s : State) (a at : ℕ) (new : List ℕ) → index_of s.memory a (length new) ≡ Some at → All (λ byte. byte < 256) new → Ready x i s → Ready x i (with_run s a new)
  ready_run s a at new found small t = record {
    is = run_is s a at new t.is found small;
    running = t.running;
    at = t.at;
    alike = record {
      program = t.alike.program;
      pc = t.alike.pc;
      returns = t.alike.returns;
      context = t.alike.context ∙ sym (ap (λ (m : Image). m.context_len) (put_found s.memory a at new found));
      words = t.alike.words;
    };
  }

  leads : (s : State) → Ready x i s → Leads s move.Step (next s)
  leads s t = record { before = t.is; movable = t.running; after = refl }

  -- Two of them that differ in a register, or in a byte.
  module _ (table other : State → Insn → List Part) (n : ℕ) where
    pub differ_register : (s : State) (r v : ℕ) → r < 10 → v < 2 ^ 64 → Ready x i s → slice_get (places table s i) n ≡ Some (Register (depth_for (depth s) r) r) → is_in (Register (depth_for (depth s) r) r) (places other s i) ≡ false → DifferAt table other i n x s (with_register s r v)
    differ_register s r v low small t told apart =
        let u = ready_register s r v small t in
        record {
          first = leads s t;
          second = leads (with_register s r v) u;
          here = t.alike;
          there = u.alike;
          place = Register (depth_for (depth s) r) r;
          told = told;
          apart = apart;
          agree = λ p is other. sym (register_agrees s r v p t.is low is other);
        }

    pub differ_byte : (s : State) (a at v : ℕ) → index_of s.memory a 1 ≡ Some at → v < 256 → Ready x i s → slice_get (places table s i) n ≡ Some (Byte a) → is_in (Byte a) (places other s i) ≡ false → DifferAt table other i n x s (with_run s a (v ∷ []))
    differ_byte s a at v found small t told apart =
        let u = ready_run s a at (v ∷ []) found (one_small v small) t in
        record {
          first = leads s t;
          second = leads (with_run s a (v ∷ [])) u;
          here = t.alike;
          there = u.alike;
          place = Byte a;
          told = told;
          apart = apart;
          agree = λ p is other. sym (byte_agrees s a at v p t.is is other found);
        }

-- Bytes from the first one of frame 0 on, which a program may access at each depth.
pub first_at : (m : Image) (k : ℕ) → IsImage m → 1 ≤ k → k ≤ 8 → (at : ℕ) × (index_of m (frame_base 0) k ≡ Some at)
first_at m k is some few =
    some_index (index_of m (frame_base 0) k)
    ((law_runs m is (frame_base 0) k some).1 (λ j low. (law_runs m is (frame_base 0) frame_len (omega arith)).0 (whole _ _ (frame_at m 0 is.short (omega arith))) j (omega (arith, low, few))))
  where
    whole : (o : Option ℕ) (at : ℕ) → o ≡ Some at → IsSome o
    whole None at e = cc
    whole (Some k) at e = refl

not_above : (d : ℕ) → is_from_frame (d + 1) (frame_base 0) ≡ false
not_above d = grind (arith, nat_tests)

pub reached : (s : State) (k : ℕ) → IsState s → 1 ≤ k → k ≤ 8 → (at : ℕ) × (accessible s (frame_base 0) k ≡ Some at) × (index_of s.memory (frame_base 0) k ≡ Some at)
reached s k is some few =
    let found = first_at s.memory k is.image some few in
    (found.0, ap (λ b. if b then None else index_of s.memory (frame_base 0) k) (not_above (depth s)) ∙ found.1, found.1)

-- No byte stands at address 0.
pub not_reached : (s : State) (k : ℕ) → accessible s 0 k ≡ None
not_reached s k = sym (in_context_below s.memory (depth s + 1) 0 k None (omega arith) tt (inl (omega arith)))

-- Of the eight bytes from there on byte j is v, and the others are zero.
pub record Holds (m : Image) (j v : ℕ) : Type 0 where
  pub here : byte_at m (frame_base 0 + j) ≡ Some v
  pub rest : (k : ℕ) → k < 8 → k ≢ j → byte_at m (frame_base 0 + k) ≡ Some 0

sum_before : (m : Image) (j v n : ℕ) → Holds m j v → n ≤ 8 → n ≤ j → sum_at m (frame_base 0) n ≡ 0
sum_before m j v zero h few low = refl
sum_before m j v (suc n) h few low =
    let byte = ap (λ o. unwrap_or o 0 * 256 ^ n) (h.rest n (omega (arith, few)) (λ e. absurd (omega (arith, e, low)))) in
    omega (arith, byte, sum_before m j v n h (omega (arith, few)) (omega (arith, low)))

sum_past : (m : Image) (j v n : ℕ) → Holds m j v → n ≤ 8 → j < n → sum_at m (frame_base 0) n ≡ v * 256 ^ j
sum_past m j v zero h few low = absurd (omega (arith, low))
sum_past m j v (suc n) h few low = elim (cases_lt j n) [
  | inl past ↦
      let byte = ap (λ o. unwrap_or o 0 * 256 ^ n) (h.rest n (omega (arith, few)) (λ e. absurd (omega (arith, e, past)))) in
      omega (arith, byte, sum_past m j v n h (omega (arith, few)) past)
  | inr to ↦
      let same : j ≡ n = omega (arith, low, to) in
      let byte : unwrap_or (byte_at m (frame_base 0 + n)) 0 * 256 ^ n ≡ v * 256 ^ j =
      ap (λ k. unwrap_or (byte_at m (frame_base 0 + k)) 0 * 256 ^ k) (sym same) ∙ ap (λ o. unwrap_or o 0 * 256 ^ j) h.here in
      omega (arith, byte, sum_before m j v n h (omega (arith, few)) to)
]

pub number_held : (m : Image) (j v n at : ℕ) → IsImage m → Holds m j v → j < n → n ≤ 8 → index_of m (frame_base 0) n ≡ Some at → number_at m at n ≡ v * 256 ^ j
number_held m j v n at is h low few found = law_numbers m is (frame_base 0) n at found ∙ sum_past m j v n h few low

abbrev eight_zeros : List ℕ
eight_zeros = 0 ∷ (0 ∷ (0 ∷ (0 ∷ (0 ∷ (0 ∷ (0 ∷ (0 ∷ [])))))))

zero_at : (j : ℕ) → slice_index eight_zeros j ≡ 0
zero_at j = grind (arith, elements)

zeros_small : All (λ byte. byte < 256) eight_zeros
zeros_small = λ k d within. at k d within
  where
    at : (k d : ℕ) → k < 8 → get_or eight_zeros k d < 256
    at k d within = grind (arith, elements)

-- A state whose bytes there hold 0, and one that holds another number there.
abbrev pub cleared_first : State → State
cleared_first s = with_run s (frame_base 0) eight_zeros

pub cleared_holds : (s : State) (j : ℕ) → j < 8 → IsState s → Holds (cleared_first s).memory j 0
cleared_holds s j low is =
    let found = first_at s.memory 8 is.image (omega arith) (omega arith) in
    let law = law_stores s.memory is.image (frame_base 0) found.0 eight_zeros found.1 in
    subst (λ (k : Image). Holds k j 0) (sym (put_found s.memory (frame_base 0) found.0 eight_zeros found.1)) (record {
      here = law.0 j low ∙ ap Some (zero_at j);
      rest = λ k few other. law.0 k few ∙ ap Some (zero_at k);
    })

-- Byte j of them, alone.
pub byte_found : (s : State) (j : ℕ) → IsState s → j < 8 → (at : ℕ) × (index_of s.memory (frame_base 0 + j) 1 ≡ Some at)
byte_found s j is low =
    let whole = first_at s.memory 8 is.image (omega arith) (omega arith) in
    some_index (index_of s.memory (frame_base 0 + j) 1)
    ((law_runs s.memory is.image (frame_base 0 + j) 1 (omega arith)).1 (λ k few.
    let here : frame_base 0 + j + k ≡ frame_base 0 + j = omega (arith, few) in
    subst (λ a. IsSome (byte_at s.memory a)) (sym here) ((law_runs s.memory is.image (frame_base 0) 8 (omega arith)).0 (present (index_of s.memory (frame_base 0) 8) whole.0 whole.1) j low)))

pub set_holds : (s : State) (j at u v : ℕ) → j < 8 → IsState s → index_of s.memory (frame_base 0 + j) 1 ≡ Some at → Holds s.memory j u → Holds (with_run s (frame_base 0 + j) (v ∷ [])).memory j v
set_holds s j at u v low is found h =
    let law = law_stores s.memory is.image (frame_base 0 + j) at (v ∷ []) found in
    let same : frame_base 0 + j + 0 ≡ frame_base 0 + j = omega arith in
    subst (λ (k : Image). Holds k j v) (sym (put_found s.memory (frame_base 0 + j) at (v ∷ []) found)) (record {
      here = ap (byte_at (with_bytes s.memory at (v ∷ []))) (sym same) ∙ law.0 0 (omega arith);
      rest = λ k few other. law.1 (frame_base 0 + k) (beside k other) ∙ h.rest k few other;
    })
  where
    beside : (k : ℕ) → k ≢ j → (frame_base 0 + k < frame_base 0 + j) ⊎ (frame_base 0 + j + 1 ≤ frame_base 0 + k)
    beside k other = elim (cases_lt k j) [
      | inl before ↦ inl (omega (arith, before))
      | inr from ↦ elim (cases_lt j k) [
        | inl past ↦ inr (omega (arith, past))
        | inr to ↦ absurd (other (omega (arith, from, to)))
      ]
    ]

pub ready_cleared : (x : State) (i : Insn) (s : State) → Ready x i s → Ready x i (cleared_first s)
ready_cleared x i s t =
    let found = first_at s.memory 8 t.is.image (omega arith) (omega arith) in
    ready_run x i s (frame_base 0) found.0 eight_zeros found.1 zeros_small t
