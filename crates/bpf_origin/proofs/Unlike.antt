-- Steps that do not write alike: what two changes write differs.
use Rattle.std.proofs.Common.{◌≡◌, ◌≤◌, ◌<◌, ℕ, ◌+◌, ◌-◌, List, [], ◌∷◌, ◌++◌, length, length-append, true, false, Some, sym, ap, subst, ◌∙◌, arith}
use Rattle.std.specs.Prelude.{◌==◌, ◌&&◌, ◌||◌, nat_lt, nat_le, unwrap_or, slice_index}
use Rattle.std.proofs.lemmas.Bool.Decides.{nat_tests}
use Rattle.std.proofs.Math.Seq.{get_or-append_seam}
use Rattle.byteorder.specs.Endian.{little_bytes}
use Rattle.byteorder.specs.Numbers.{length-bytes_low_first}
use Rattle.bpf_isa.specs.Sizes.{size_len}
use Rattle.bpf_isa.specs.declared.instruction.Size.{Size}
use Rattle.bpf_entries.specs.declared.status.Status.{Status}
use Rattle.bpf_steps.specs.declared.change.Change.{Change}
use Rattle.bpf_steps.specs.declared.change.Change.TheVariants.{Set, Go, Store, Fetch, Call, Return, Cell, Trace, Stop}
use Rattle.bpf_steps.specs.ByAddress.{byte_at}
use Rattle.bpf_steps.specs.Entries.{entry_of, step_entry}
use Rattle.bpf_steps.specs.Next.{change, changed, next}
use Rattle.bpf_steps.specs.Platform.{frame_base}
use Rattle.bpf_steps.specs.Regions.{Image, IsImage, index_of, run, number_at, with_number}
use Rattle.bpf_steps.specs.State.{State, IsState, depth}
use Rattle.bpf_steps.proofs.ByAddress.{fits_within, length-run, law_stores}
use Rattle.bpf_origin.specs.declared.place.Place.{Place}
use Rattle.bpf_origin.specs.declared.place.Place.TheVariants.{Register, Word, Byte}
use Rattle.bpf_origin.specs.declared.place.Part.{Part}
use Rattle.bpf_origin.specs.declared.place.Part.TheVariants as part
use Rattle.bpf_origin.specs.Laws.{WroteAlike}
use Rattle.bpf_origin.specs.Places.{depth_for, same}
use Rattle.bpf_origin.proofs.Agreeing.{eq_self, same_self}
use Rattle.bpf_origin.proofs.Writing.{set_there}

-- A change that writes something.
abbrev pub WritesSome : Change → Type 0
WritesSome (Set r v after) = Unit {0}
WritesSome (Store a at size v after) = Unit {0}
WritesSome (Fetch a at size v r after) = Unit {0}
WritesSome (Cell a from n after) = Unit {0}
WritesSome (Trace word after) = Unit {0}
WritesSome _ = ⊥

pub some_bytes : (size : Size) → 1 ≤ size_len size
some_bytes size = grind (arith)

-- Where the second of two parts begins.
abbrev start_of : Part → ℕ
start_of (part.Bytes a n) = a
start_of _ = 0

abbrev second_start : List Part → ℕ
second_start [] = 0
second_start (p ∷ []) = 0
second_start (p ∷ (q ∷ ps)) = start_of q

module _ (a b : State) where
  pub as_changes : (c d : Change) → change a ≡ c → change b ≡ d → WroteAlike (next a) (step_entry a) (next b) (step_entry b) → WroteAlike (changed a c) (entry_of a c) (changed b d) (entry_of b d)
  as_changes c d e f alike =
      subst (λ (k : Change). WroteAlike (changed a c) (entry_of a c) (changed b k) (entry_of b k)) f
      (subst (λ (k : Change). WroteAlike (changed a k) (entry_of a k) (next b) (step_entry b)) e alike)

  pub stop_unlike : (c : Change) (status : Status) → WritesSome c → WroteAlike (changed a c) (entry_of a c) (changed b (Stop status)) (entry_of b (Stop status)) → ⊥
  unfolding changed entry_of
  stop_unlike (Set r v after) status some alike = let e = ap length alike.places in cc
  stop_unlike (Go after) status some alike = some
  stop_unlike (Store k at size v after) status some alike = let e = ap length alike.places in cc
  stop_unlike (Fetch k at size v r after) status some alike = let e = ap length alike.places in cc
  stop_unlike (Call to) status some alike = some
  stop_unlike Return status some alike = some
  stop_unlike (Cell k from n after) status some alike = let e = ap length alike.places in cc
  stop_unlike (Trace word after) status some alike = let e = ap length alike.places in cc
  stop_unlike (Stop other) status some alike = some

  pub fetch_unlike : (k at v r m s u n : ℕ) (size : Size) → WroteAlike (changed a (Fetch k at size v r m)) (entry_of a (Fetch k at size v r m)) (changed b (Set s u n)) (entry_of b (Set s u n)) → ⊥
  unfolding changed entry_of
  fetch_unlike k at v r m s u n size alike = let e = ap length alike.places in cc

  pub cell_unlike : (k from len m s u n : ℕ) → WroteAlike (changed a (Cell k from len m)) (entry_of a (Cell k from len m)) (changed b (Set s u n)) (entry_of b (Set s u n)) → ⊥
  unfolding changed entry_of
  cell_unlike k from len m s u n alike = let e = ap length alike.places in cc

  pub cell_alike : (k l from to len m n : ℕ) → WroteAlike (changed a (Cell k from len m)) (entry_of a (Cell k from len m)) (changed b (Cell l to len n)) (entry_of b (Cell l to len n)) → k ≡ l
  unfolding changed entry_of
  cell_alike k l from to len m n alike = ap second_start alike.places

  -- Where both write to the same places, they write the same values.
  module _ (ha : IsState a) (hb : IsState b) (deep : depth a ≡ depth b) where
    other_there : (r : ℕ) → same (Register (depth_for (depth b) r) r) (Register (depth_for (depth a) r) r) ≡ true
    other_there r = ap (λ d. same (Register (depth_for d r) r) (Register (depth_for (depth a) r) r)) (sym deep) ∙ same_self (Register (depth_for (depth a) r) r)

    pub set_alike : (r v u m n : ℕ) → r < 10 → WroteAlike (changed a (Set r v m)) (entry_of a (Set r v m)) (changed b (Set r u n)) (entry_of b (Set r u n)) → v ≡ u
    unfolding changed entry_of
    set_alike r v u m n low alike =
        let p : Place = Register (depth_for (depth a) r) r in
        sym (set_there a.registers a.frames r v (depth_for (depth a) r) r ha.ten low (same_self p))
        ∙ alike.values p (ap (λ t. t || false) (same_self p))
        ∙ set_there b.registers b.frames r u (depth_for (depth a) r) r hb.ten low (other_there r)

    pub fetch_alike : (k l at to v u r m n : ℕ) (size : Size) → r < 10 → WroteAlike (changed a (Fetch k at size v r m)) (entry_of a (Fetch k at size v r m)) (changed b (Fetch l to size u r n)) (entry_of b (Fetch l to size u r n)) → number_at a.memory at (size_len size) ≡ number_at b.memory to (size_len size)
    unfolding changed entry_of
    fetch_alike k l at to v u r m n size low alike =
        let p : Place = Register (depth_for (depth a) r) r in
        sym (set_there a.registers a.frames r (number_at a.memory at (size_len size)) (depth_for (depth a) r) r ha.ten low (same_self p))
        ∙ alike.values p (ap (λ t. t || (false || false)) (same_self p))
        ∙ set_there b.registers b.frames r (number_at b.memory to (size_len size)) (depth_for (depth a) r) r hb.ten low (other_there r)

  byte_in : (k n : ℕ) (bytes : List ℕ) → length bytes ≡ n → k < n → (nat_le (frame_base 0) (frame_base 0 + k) && nat_lt (frame_base 0 + k) (frame_base 0 + length bytes)) ≡ true
  byte_in k n bytes e low = grind (arith, nat_tests)

  byte_stored : (m : Image) (k at n v : ℕ) → IsImage m → k < n → index_of m (frame_base 0) n ≡ Some at → unwrap_or (byte_at (with_number m at n v) (frame_base 0 + k)) 0 ≡ slice_index (little_bytes n v) k
  byte_stored m k at n v is low found =
      let count = length-bytes_low_first 0 n v in
      ap (λ o. unwrap_or o 0) ((law_stores m is (frame_base 0) at (little_bytes n v) (ap (index_of m (frame_base 0)) count ∙ found)).0 k (omega (arith, low, count)))

  pub store_alike : (k at to v u m n : ℕ) (size : Size) → k < size_len size → IsState a → IsState b → index_of a.memory (frame_base 0) (size_len size) ≡ Some at → index_of b.memory (frame_base 0) (size_len size) ≡ Some to → WroteAlike (changed a (Store (frame_base 0) at size v m)) (entry_of a (Store (frame_base 0) at size v m)) (changed b (Store (frame_base 0) to size u n)) (entry_of b (Store (frame_base 0) to size u n)) → slice_index (little_bytes (size_len size) v) k ≡ slice_index (little_bytes (size_len size) u) k
  unfolding changed entry_of
  store_alike k at to v u m n size low ha hb found also alike =
      let count = length-run a.memory.bytes at (size_len size) (fits_within a.memory ha.image (frame_base 0) (size_len size) at found) in
      sym (byte_stored a.memory k at (size_len size) v ha.image low found)
      ∙ alike.values (Byte (frame_base 0 + k)) (ap (λ t. t || false) (byte_in k (size_len size) (run a.memory at (size_len size)) count low))
      ∙ byte_stored b.memory k to (size_len size) u hb.image low also

  pub exchange_alike : (k at to v u r m n : ℕ) (size : Size) → k < size_len size → IsState a → IsState b → index_of a.memory (frame_base 0) (size_len size) ≡ Some at → index_of b.memory (frame_base 0) (size_len size) ≡ Some to → WroteAlike (changed a (Fetch (frame_base 0) at size v r m)) (entry_of a (Fetch (frame_base 0) at size v r m)) (changed b (Fetch (frame_base 0) to size u r n)) (entry_of b (Fetch (frame_base 0) to size u r n)) → slice_index (little_bytes (size_len size) v) k ≡ slice_index (little_bytes (size_len size) u) k
  unfolding changed entry_of
  exchange_alike k at to v u r m n size low ha hb found also alike =
      let count = length-run a.memory.bytes at (size_len size) (fits_within a.memory ha.image (frame_base 0) (size_len size) at found) in
      sym (byte_stored a.memory k at (size_len size) v ha.image low found)
      ∙ alike.values (Byte (frame_base 0 + k)) (ap (λ t. t || false) (byte_in k (size_len size) (run a.memory at (size_len size)) count low))
      ∙ byte_stored b.memory k to (size_len size) u hb.image low also

  -- A traced word.
  pub trace_alike : (v u m n : ℕ) → length a.trace ≡ length b.trace → WroteAlike (changed a (Trace v m)) (entry_of a (Trace v m)) (changed b (Trace u n)) (entry_of b (Trace u n)) → v ≡ u
  unfolding changed entry_of
  trace_alike v u m n count alike =
      let last : length (a.trace ++ v ∷ []) - 1 ≡ length a.trace = omega (arith, length-append a.trace (v ∷ [])) in
      sym (get_or-append_seam a.trace v [] 0)
      ∙ alike.values (Word (length a.trace)) (ap (λ k. (k == length a.trace) || false) last ∙ ap (λ t. t || false) (eq_self (length a.trace)))
      ∙ ap (slice_index (b.trace ++ u ∷ [])) count
      ∙ get_or-append_seam b.trace u [] 0
