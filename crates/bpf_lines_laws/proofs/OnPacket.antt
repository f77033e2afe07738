-- The words of a program that takes its packet by a struct: they stand behind those that make it, and what is no access to it is as it was.
use Rattle.std.proofs.Common.{◌≡◌, ◌≤◌, ◌<◌, ◌⊎◌, inl, inr, ℕ, zero, suc, ◌+◌, ◌-◌, ◌*◌, ◌/◌, List, ◌++◌, length, get_or, Option, Some, None, refl, sym, ap, subst, ◌∙◌, arith, length-append}
use Rattle.std.proofs.lemmas.List.{get_or-append-add, get_or-append_right, get_or_append_left}
use Rattle.bpf_link.specs.Packets.{HasWords}
use Rattle.bpf_link.specs.Programs.{Asked}
use Rattle.bpf_link_laws.proofs.Pieces.{slice_at, slice_length}
use Rattle.bpf_packet.specs.Entry.{entry_words}
use Rattle.bpf_packet.specs.Holding.{state_of}
use Rattle.bpf_packet.specs.Packets.{IsOnPacket}
use Rattle.bpf_packet.specs.Rewriting.{bytes_of, patched, rewritten, rewritten_below}
use Rattle.bpf_packet.specs.Slots.{slot_at}
use Rattle.bpf_packet.specs.Uses.{patch_of}
use Rattle.bpf_packet.specs.declared.held.Held.{Held}
use Rattle.bpf_packet.specs.declared.packet.Access.{Access}
use Rattle.bpf_packet.specs.declared.packet.Packet.{Packet}
use Rattle.bpf_packet.specs.declared.packet.Packet.TheVariants.{Xdp, Tc}
use Rattle.bpf_lines.specs.Objects.{entry_slots}
use Rattle.bpf_lines_laws.specs.Kept.{IsNoAccess}
use Rattle.bpf_lines_laws.proofs.Sizes.{Fits, fits_on}

bytes_length : (words : List ℕ) (p : ℕ) → 8 * p + 8 ≤ length words → length (bytes_of words p) ≡ 8
bytes_length words p inside = slice_length words (8 * p) (8 * p + 8) (omega arith) inside ∙ omega arith

patched_length : (bytes : List ℕ) (access : Option Access) → length bytes ≡ 8 → length (patched bytes access) ≡ 8
patched_length bytes None size = size
patched_length bytes (Some access) size = refl

abbrev slot_new : Packet → List ℕ → List Held → ℕ → List ℕ
slot_new kind words table n = patched (bytes_of words n) (patch_of kind (slot_at words n) (state_of table n))

slot_length : (kind : Packet) (words : List ℕ) (table : List Held) (n : ℕ) → 8 * n + 8 ≤ length words → length (slot_new kind words table n) ≡ 8
slot_length kind words table n inside = patched_length (bytes_of words n) (patch_of kind (slot_at words n) (state_of table n)) (bytes_length words n inside)

below_length : (kind : Packet) (words : List ℕ) (table : List Held) (n : ℕ) → 8 * n ≤ length words → length (rewritten_below kind words table n) ≡ 8 * n
below_length kind words table zero inside = refl
below_length kind words table (suc n) inside =
    let before = below_length kind words table n (omega arith) in
    let last = slot_length kind words table n (omega arith) in
    length-append (rewritten_below kind words table n) (slot_new kind words table n) ∙ omega (arith, before, last)

last_or : (p n : ℕ) → p < suc n → (p < n) ⊎ (p ≡ n)
last_or p n low = grind arith

below_at : (kind : Packet) (words : List ℕ) (table : List Held) (n p k : ℕ) → 8 * n ≤ length words → p < n → k < 8 → patch_of kind (slot_at words p) (state_of table p) ≡ None
    → get_or (rewritten_below kind words table n) (8 * p + k) 0 ≡ get_or words (8 * p + k) 0
below_at kind words table zero p k inside low small none = absurd (omega arith)
below_at kind words table (suc n) p k inside low small none = by (last_or p n low) (λ less. below_at kind words table n p k (omega arith) less small none)
  where
    size : length (rewritten_below kind words table n) ≡ 8 * n
    size = below_length kind words table n (omega arith)

    by : (p < n) ⊎ (p ≡ n) → (p < n → get_or (rewritten_below kind words table n) (8 * p + k) 0 ≡ get_or words (8 * p + k) 0)
        → get_or (rewritten_below kind words table n ++ slot_new kind words table n) (8 * p + k) 0 ≡ get_or words (8 * p + k) 0
    by (inl less) before =
        get_or_append_left (rewritten_below kind words table n) (slot_new kind words table n) 0 (8 * p + k) (omega (arith, size))
        ∙ before less
    by (inr same) before =
        let rest : 8 * p + k - 8 * n ≡ k = omega (arith, same) in
        get_or-append_right (rewritten_below kind words table n) (slot_new kind words table n) (8 * n) (8 * p + k) 0 size (omega (arith, same))
        ∙ ap (λ i. get_or (slot_new kind words table n) i 0) rest
        ∙ ap (λ q. get_or (slot_new kind words table q) k 0) (sym same)
        ∙ ap (λ access. get_or (patched (bytes_of words p) access) k 0) none
        ∙ slice_at words (8 * p) (8 * p + 8) k (omega arith)

entry_whole : (kind : Packet) → length (entry_words kind) ≡ 8 * (length (entry_words kind) / 8)
entry_whole Xdp = refl
entry_whole Tc = refl

-- how long they are
packet_fits : (kind : Packet) (own words : List ℕ) (jumps slots : ℕ) → IsOnPacket kind own words → Fits jumps (length own) slots → Fits jumps (length words) (entry_slots (Some kind) + slots)
packet_fits kind own words jumps slots on fits =
    let front : length (entry_words kind) ≡ 8 * entry_slots (Some kind) = entry_whole kind in
    let size : length words ≡ length (entry_words kind) + length (rewritten kind own on.table) =
    ap length on.whole ∙ length-append (entry_words kind) (rewritten kind own on.table) in
    let rest : length (rewritten kind own on.table) ≡ 8 * (length own / 8) = below_length kind own on.table (length own / 8) (omega arith) in
    fits_on jumps (length own) (length words) (entry_slots (Some kind)) slots fits
    (λ same. omega (arith, front, size, rest, same))
    (λ more. omega (arith, front, size, rest, more))

in_front : (n : ℕ) → n ≡ 0 + n
in_front n = omega arith

pub words_fit : (packet : Option Packet) (asked : Asked) (own words : List ℕ) (jumps slots : ℕ) → HasWords packet asked.object asked.name asked.entry own words → Fits jumps (length own) slots
    → Fits jumps (length words) (entry_slots packet + slots)
words_fit None asked own words jumps slots has fits = subst (λ n. Fits jumps (length words) n) (in_front slots) (subst (λ l. Fits jumps (length l) slots) (sym has.0) fits)
words_fit (Some kind) asked own words jumps slots has fits = packet_fits kind own words jumps slots has.0 fits

-- what they have
packet_at : (kind : Packet) (own words : List ℕ) (on : IsOnPacket kind own words) (p k : ℕ) → 8 * p + 8 ≤ length own → patch_of kind (slot_at own p) (state_of on.table p) ≡ None → k < 8
    → get_or words (8 * (entry_slots (Some kind) + p) + k) 0 ≡ get_or own (8 * p + k) 0
packet_at kind own words on p k inside none small =
    let front : length (entry_words kind) ≡ 8 * entry_slots (Some kind) = entry_whole kind in
    let place : 8 * (entry_slots (Some kind) + p) + k ≡ length (entry_words kind) + (8 * p + k) = omega (arith, front) in
    ap (λ l. get_or l (8 * (entry_slots (Some kind) + p) + k) 0) on.whole
    ∙ ap (λ i. get_or (entry_words kind ++ rewritten kind own on.table) i 0) place
    ∙ get_or-append-add (entry_words kind) (rewritten kind own on.table) (8 * p + k) 0
    ∙ below_at kind own on.table (length own / 8) p k (omega arith) (omega arith) small none

pub words_at : (packet : Option Packet) (asked : Asked) (own words : List ℕ) (has : HasWords packet asked.object asked.name asked.entry own words) (p k : ℕ) → 8 * p + 8 ≤ length own
    → IsNoAccess packet asked own words has p → k < 8 → get_or words (8 * (entry_slots packet + p) + k) 0 ≡ get_or own (8 * p + k) 0
words_at None asked own words has p k inside none small =
    ap (λ l. get_or l (8 * (0 + p) + k) 0) has.0 ∙ ap (λ n. get_or own (8 * n + k) 0) (sym (in_front p))
words_at (Some kind) asked own words has p k inside none small = packet_at kind own words has.0 p k inside none small
