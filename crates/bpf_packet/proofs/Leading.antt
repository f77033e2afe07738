-- Where each right table reaches a slot's state, it reaches what that passes on.
use Rattle.std.proofs.Common.{◌≡◌, ◌<◌, ◌≤◌, ◌⊎◌, inl, inr, ℕ, zero, suc, ◌+◌, ◌-◌, ◌*◌, Bool, true, List, length, drop, get_or, replicate, sym, ap, ◌∙◌, arith}
use Rattle.std.specs.Prelude.{not, nat_lt, ◌&&◌, ◌||◌, ◌==◌}
use Rattle.std.proofs.lemmas.List.{get_or-take, get_or-drop, get_or-replicate, get_or_past, length-replicate}
use Rattle.std.proofs.lemmas.Grind.{common_steps}
use Rattle.bpf_packet.specs.Flow.{after, at_entry, entering}
use Rattle.bpf_packet.specs.Holding.{all_below, covers, held_in, most_places, state_of}
use Rattle.bpf_packet.specs.Least.{AllReach, StateReaches, reaches}
use Rattle.bpf_packet.specs.Slots.{goes_on, jumps, slot_at, slots_in, target_of}
use Rattle.bpf_packet.specs.Tables.{goes_right, holds, is_reached, is_right, is_right_at, jumps_right}
use Rattle.bpf_packet.specs.declared.held.Held.{Held}
use Rattle.bpf_packet.specs.declared.held.Held.TheVariants.{Nothing}
use Rattle.bpf_packet.specs.declared.slot.Slot.{Slot}
use Rattle.bpf_packet.proofs.Growing.{after_grows, entering_grows}
use Rattle.bpf_packet.proofs.Reaching.{is_something_by, reached_by_cover, reaches_by, reaches_same, reaches_nothing}

both_left : (a b : Bool) → (a && b) ≡ true → a ≡ true
both_left a b e = grind arith

both_right : (a b : Bool) → (a && b) ≡ true → b ≡ true
both_right a b e = grind arith

by_or : (a b : Bool) → a ≡ true → (not a || b) ≡ true → b ≡ true
by_or a b holding e = grind arith

last_or_less : (k n : ℕ) → k < suc n → (k < n) ⊎ (n ≡ k)
last_or_less k n inside = grind arith

-- each number below n passes
at_below : (test : ℕ → Bool) (n k : ℕ) → all_below test n ≡ true → k < n → test k ≡ true
at_below test zero k all inside = absurd (omega arith)
at_below test (suc n) k all inside = by_case (λ less. at_below test n k (both_left (all_below test n) (test n) all) less) (last_or_less k n inside)
  where
    by_case : (k < n → test k ≡ true) → (k < n) ⊎ (n ≡ k) → test k ≡ true
    by_case below (inl less) = below less
    by_case below (inr is) = ap test (sym is) ∙ both_right (all_below test n) (test n) all

places : (place : ℕ) → place < 75 → place < most_places
unfolding most_places
places place inside = inside

held_at : (state : List Held) (given : ℕ → Held) (place : ℕ) → holds state given ≡ true → place < 75 → covers (held_in state place) (given place) ≡ true
unfolding holds
held_at state given place all inside = at_below (λ k. covers (held_in state k) (given k)) most_places place all (places place inside)

-- what a place of a state holds
in_state : (table : List Held) (p place : ℕ) → place < 75 → held_in (state_of table p) place ≡ held_in table (75 * p + place)
in_state table p place inside =
    get_or-take (75 * p + 75 - 75 * p) (drop (75 * p) table) place Nothing (omega arith) ∙ get_or-drop (75 * p) table place Nothing

past_state : (table : List Held) (p place : ℕ) → 75 ≤ place → held_in (state_of table p) place ≡ Nothing
past_state table p place past =
    let size : length (state_of table p) ≤ 75 = grind (arith, common_steps) in
    get_or_past (state_of table p) place Nothing (omega arith)

within_or_not : (i n : ℕ) → (i < n) ⊎ (n ≤ i)
within_or_not i n = grind arith

states_reach : (other table : List Held) (p : ℕ) → AllReach other table → AllReach (state_of other p) (state_of table p)
states_reach other table p r = λ place. by_case place (within_or_not place 75)
  where
    by_case : (place : ℕ) → (place < 75) ⊎ (75 ≤ place) → reaches (held_in (state_of other p) place) (held_in (state_of table p) place) ≡ true
    by_case place (inl inside) = rw (in_state other p place inside, in_state table p place inside) (r (75 * p + place))
    by_case place (inr past) = rw (past_state table p place past) (reaches_nothing (held_in (state_of other p) place))

-- what a right table says
record Rights (words : List ℕ) (table : List Held) : Type 0 where
  entry : holds (state_of table 0) at_entry ≡ true
  each : (p : ℕ) → p < slots_in words → is_right_at words table p ≡ true

rights : (words : List ℕ) (table : List Held) → is_right words table ≡ true → Rights words table
unfolding is_right
rights words table right =
    let rest = both_right (nat_lt 0 (slots_in words) && (length table == 75 * slots_in words)) (holds (state_of table 0) at_entry && all_below (is_right_at words table) (slots_in words)) right in
    record {
      entry = both_left (holds (state_of table 0) at_entry) (all_below (is_right_at words table) (slots_in words)) rest;
      each = λ p inside. at_below (is_right_at words table) (slots_in words) p (both_right (holds (state_of table 0) at_entry) (all_below (is_right_at words table) (slots_in words)) rest) inside;
    }

both_ways : (words : List ℕ) (table : List Held) (p : ℕ) → is_right_at words table p ≡ true → is_reached (state_of table p) ≡ true → (goes_right words table p && jumps_right words table p) ≡ true
unfolding is_right_at
both_ways words table p right reached = by_or (is_reached (state_of table p)) (goes_right words table p && jumps_right words table p) reached right

-- a state of a right table reaches what is given for it by what a lower table says
passes : (other : List Held) (p : ℕ) (more less : ℕ → Held) → holds (state_of other p) more ≡ true → ((place : ℕ) → reaches (more place) (less place) ≡ true) → (place : ℕ) → place < 75 → reaches (held_in other (75 * p + place)) (less place) ≡ true
passes other p more less all grows place inside =
    let here = reached_by_cover (held_in (state_of other p) place) (more place) (held_at (state_of other p) more place all inside) in
    rw (← in_state other p place inside) (reaches_by (held_in (state_of other p) place) (more place) (less place) here (grows place))

as_given : (other given : List Held) (p : ℕ) (says : ℕ → Held) → ((place : ℕ) → place < 75 → held_in given place ≡ says place) → ((place : ℕ) → place < 75 → reaches (held_in other (75 * p + place)) (says place) ≡ true) → StateReaches other p given
as_given other given p says is all = λ place inside. rw (is place inside) (all place inside)

reached_too : (other table : List Held) (p : ℕ) → AllReach other table → is_reached (state_of table p) ≡ true → is_reached (state_of other p) ≡ true
reached_too other table p r reached = is_something_by (held_in (state_of other p) 10) (held_in (state_of table p) 10) (states_reach other table p r 10) reached

pub entry_reached : (words : List ℕ) (given other : List Held) → ((place : ℕ) → place < 75 → held_in given place ≡ at_entry place) → is_right words other ≡ true → StateReaches other 0 given
entry_reached words given other is right =
    as_given other given 0 at_entry is (passes other 0 at_entry at_entry (rights words other right).entry (λ place. reaches_same (at_entry place)))

pub next_reached : (words : List ℕ) (slot : Slot) (state table given other : List Held) (p : ℕ) → p < slots_in words → slot ≡ slot_at words p → state ≡ state_of table p → is_reached state ≡ true → goes_on slot ≡ true → ((place : ℕ) → place < 75 → held_in given place ≡ after slot state place) → AllReach other table → is_right words other ≡ true → StateReaches other (p + 1) given
next_reached words slot state table given other p inside here at reached on is r right =
    let there : is_reached (state_of table p) ≡ true = ap is_reached (sym at) ∙ reached in
    let ways = both_ways words other p ((rights words other right).each p inside) (reached_too other table p r there) in
    let way = by_or (goes_on (slot_at words p)) (nat_lt (p + 1) (slots_in words) && holds (state_of other (p + 1)) (after (slot_at words p) (state_of other p))) (ap goes_on (sym here) ∙ on) (both_left (goes_right words other p) (jumps_right words other p) ways) in
    let held = both_right (nat_lt (p + 1) (slots_in words)) (holds (state_of other (p + 1)) (after (slot_at words p) (state_of other p))) way in
    as_given other given (p + 1) (after (slot_at words p) (state_of table p))
    (λ place small. is place small ∙ ap (λ it. after it state place) here ∙ ap (λ it. after (slot_at words p) it place) at)
    (passes other (p + 1) (after (slot_at words p) (state_of other p)) (after (slot_at words p) (state_of table p)) held (λ place. after_grows (slot_at words p) (state_of other p) (state_of table p) place (states_reach other table p r)))

pub target_reached : (words : List ℕ) (slot : Slot) (state table given other : List Held) (p to : ℕ) → p < slots_in words → slot ≡ slot_at words p → state ≡ state_of table p → is_reached state ≡ true → jumps slot ≡ true → to ≡ target_of p slot → ((place : ℕ) → place < 75 → held_in given place ≡ entering slot state place) → AllReach other table → is_right words other ≡ true → StateReaches other to given
target_reached words slot state table given other p to inside here at reached jumping target is r right =
    let there : is_reached (state_of table p) ≡ true = ap is_reached (sym at) ∙ reached in
    let ways = both_ways words other p ((rights words other right).each p inside) (reached_too other table p r there) in
    let way = by_or (jumps (slot_at words p)) (nat_lt (target_of p (slot_at words p)) (slots_in words) && holds (state_of other (target_of p (slot_at words p))) (entering (slot_at words p) (state_of other p))) (ap jumps (sym here) ∙ jumping) (both_right (goes_right words other p) (jumps_right words other p) ways) in
    let held = both_right (nat_lt (target_of p (slot_at words p)) (slots_in words)) (holds (state_of other (target_of p (slot_at words p))) (entering (slot_at words p) (state_of other p))) way in
    let goes : holds (state_of other to) (entering (slot_at words p) (state_of other p)) ≡ true =
    ap (λ t. holds (state_of other t) (entering (slot_at words p) (state_of other p))) (target ∙ ap (target_of p) here) ∙ held in
    as_given other given to (entering (slot_at words p) (state_of table p))
    (λ place small. is place small ∙ ap (λ it. entering it state place) here ∙ ap (λ it. entering (slot_at words p) it place) at)
    (passes other to (entering (slot_at words p) (state_of other p)) (entering (slot_at words p) (state_of table p)) goes (λ place. entering_grows (slot_at words p) (state_of other p) (state_of table p) place (states_reach other table p r)))

pub nothing_reached : (other table : List Held) (n : ℕ) → table ≡ replicate n Nothing → AllReach other table
nothing_reached other table n is at =
    rw (nothing_at table n is at (within_or_not at n)) (reaches_nothing (held_in other at))
  where
    nothing_at : (table : List Held) (n : ℕ) → table ≡ replicate n Nothing → (at : ℕ) → (at < n) ⊎ (n ≤ at) → held_in table at ≡ Nothing
    nothing_at table n is at (inl inside) = ap (λ held. get_or held at Nothing) is ∙ get_or-replicate n at Nothing Nothing inside
    nothing_at table n is at (inr past) = ap (λ held. get_or held at Nothing) is ∙ get_or_past (replicate n Nothing) at Nothing (omega (arith, length-replicate n Nothing))
