-- What an instruction leaves grows with what places hold before it.
use Rattle.std.proofs.Common.{◌≡◌, ℕ, Bool, true, false, List, arith}
use Rattle.std.specs.Prelude.{if◌then◌else◌, nat_lt, not, ◌==◌, ◌&&◌}
use Rattle.std.proofs.lemmas.Bool.Decides.{nat_tests}
use Rattle.bpf_packet.specs.Flow.{after, entering, forgets, given, is_fill, is_frame_store, is_move, is_spill, is_sum, replaces, stored}
use Rattle.bpf_packet.specs.Holding.{frame_place, held_in, outside, shifted, summed}
use Rattle.bpf_packet.specs.Slots.{is_call}
use Rattle.bpf_packet.specs.Least.{AllReach, reaches}
use Rattle.bpf_packet.specs.declared.held.Held.{Held}
use Rattle.bpf_packet.specs.declared.held.Held.TheVariants.{Other, Frame, Left}
use Rattle.bpf_packet.specs.declared.slot.Slot.{Slot}
use Rattle.bpf_packet.proofs.Reaching.{reaches_same}

-- by a test
chosen : (b : Bool) (x y u v : Held) → reaches x y ≡ true → reaches u v ≡ true → reaches (if b then x else u) (if b then y else v) ≡ true
chosen true x y u v one two = one
chosen false x y u v one two = two

summed_grows : (a b c d : Held) → reaches (summed a b) (summed c d) ≡ true
unfolding reaches
summed_grows a b c d = grind arith

outside_grows : (a b : Held) → reaches a b ≡ true → reaches (outside a) (outside b) ≡ true
unfolding reaches
outside_grows a b r = grind (arith, nat_tests)

shifted_grows : (a b : Held) (imm : ℕ) → reaches a b ≡ true → reaches (shifted a imm) (shifted b imm) ≡ true
unfolding reaches
shifted_grows a b imm r = grind (arith, nat_tests)

given_grows : (slot : Slot) (s t : List Held) → AllReach s t → reaches (given slot s) (given slot t) ≡ true
given_grows slot s t r =
    chosen (is_move slot) (held_in s slot.src) (held_in t slot.src) _ _ (r slot.src)
    (chosen (slot.opcode == 0x07) _ _ _ _ (shifted_grows (held_in s slot.dst) (held_in t slot.dst) slot.imm (r slot.dst))
    (chosen (is_fill slot) _ _ _ _ (r (frame_place slot.offset))
    (chosen (is_sum slot) _ _ _ _ (summed_grows (held_in s slot.dst) (held_in s slot.src) (held_in t slot.dst) (held_in t slot.src)) (reaches_same Other))))

stored_grows : (slot : Slot) (s t : List Held) → AllReach s t → reaches (stored slot s) (stored slot t) ≡ true
stored_grows slot s t r = chosen (is_spill slot) _ _ _ _ (r slot.src) (reaches_same Other)

pub after_grows : (slot : Slot) (s t : List Held) (place : ℕ) → AllReach s t → reaches (after slot s place) (after slot t place) ≡ true
unfolding after
after_grows slot s t place r =
    chosen (replaces slot place) _ _ _ _ (given_grows slot s t r)
    (chosen (forgets slot place) _ _ _ _ (reaches_same Left)
    (chosen (is_frame_store slot && (place == frame_place slot.offset)) _ _ _ _ (stored_grows slot s t r) (r place)))

pub entering_grows : (slot : Slot) (s t : List Held) (place : ℕ) → AllReach s t → reaches (entering slot s place) (entering slot t place) ≡ true
unfolding entering
entering_grows slot s t place r =
    chosen (not (is_call slot)) _ _ _ _ (r place)
    (chosen (nat_lt 10 place) _ _ _ _ (reaches_same Other)
    (chosen (place == 10) _ _ _ _ (reaches_same (Frame 512)) (outside_grows (held_in s place) (held_in t place) (r place))))
