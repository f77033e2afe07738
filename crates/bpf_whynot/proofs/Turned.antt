-- What it means for the runs of a machine that a slot is sure, and that a branch decided it: laws of `BranchLaws`.
use Rattle.std.proofs.Common.{◌≡◌, ◌≢◌, ◌<◌, inl, inr, ℕ, ◌+◌, pos, ◌+ℤ◌, ℤ, Bool, true, false, length, Some, refl, sym, ap, ◌∙◌, subst, arith}
use Rattle.std.specs.Prelude.{◌==◌, ◌&&◌, ◌||◌, not, if◌then◌else◌}
use Rattle.std.proofs.lemmas.Bool.Decides.{nat_tests}
use Rattle.bpf_isa.specs.Programs.{Checked, IsProgram, IsStart, insn_at, slots_of, target_of}
use Rattle.bpf_isa.specs.declared.instruction.Condition.{Condition}
use Rattle.bpf_isa.specs.declared.instruction.Insn.{Insn}
use Rattle.bpf_isa.specs.declared.instruction.Insn.TheVariants.{Exit, JumpIf}
use Rattle.bpf_isa.specs.declared.instruction.Source.{Source}
use Rattle.bpf_isa.specs.declared.instruction.Width.{Width}
use Rattle.bpf_machine.proofs.StepLaws.{change_at}
use Rattle.bpf_steps.specs.Next.{change_by, changed, jumps as is_taken, next, target}
use Rattle.bpf_steps.specs.Runs.{state_after}
use Rattle.bpf_steps.specs.State.{State, depth}
use Rattle.bpf_whynot.specs.BranchLaws.{BranchesLeadThere, ComesTo, IsWayOut, KeptIsNotWritten, LoneBranchesArePassedAgain, NoneDecides, SureIsComeTo, TurnedBranchesLeadElsewhere, gone}
use Rattle.bpf_whynot.specs.Branches.{DecidesBy, JustOne}
use Rattle.bpf_whynot.specs.Flows.{ends}
use Rattle.bpf_whynot.specs.Keeps.{CanWrite, writes_one}
use Rattle.bpf_whynot.specs.Reach.{calls, goes_on, jumps}
use Rattle.bpf_whynot.specs.Sures.{IsSure, Way, is_end_but, is_target}
use Rattle.bpf_whynot.specs.Sures.Way.{there as way_there, on as way_on, jumped as way_jumped}
use Rattle.bpf_whynot.proofs.Deciding.{one_slot, same_way}
use Rattle.bpf_whynot.proofs.Flowing.{ends_back, ends_there, stands_within}
use Rattle.bpf_whynot.proofs.Following.{Flow, FlowBy, flow_starts, follows, start_within}
use Rattle.bpf_whynot.proofs.Onward.{comes, names, program_after}

end_here : (a b : Bool) → a ≡ true → b ≡ false → (a && not b) ≡ true
end_here true false e f = refl
end_here true true e f = absurd cc
end_here false b e f = absurd cc

no_end : (a b : Bool) → (a && not b) ≡ true → b ≡ true → ⊥
no_end true true e f = cc
no_end true false e f = cc
no_end false b e f = cc

is_end : (a b : Bool) → (a && not b) ≡ true → a ≡ true
is_end true b e = refl
is_end false b e = absurd cc

no_both : (b : Bool) → b ≡ true → b ≡ false → ⊥
no_both true e f = cc
no_both false e f = cc

apart_by : (a b : ℕ) (t : Bool) → (a == b) ≡ t → a ≢ b → (a == b) ≡ false
apart_by a b true e other = absurd (other (one_slot a b e))
apart_by a b false e other = e

apart : (a b : ℕ) → a ≢ b → (a == b) ≡ false
apart a b other = apart_by a b (a == b) refl other

same : (a b : ℕ) → a ≡ b → (a == b) ≡ true
same a b e = grind (arith, nat_tests)

same_insn : (a b : Insn) → Some a ≡ Some b → a ≡ b
same_insn a b e = cc

exit_ends : (p w : ℕ) (i : Insn) → i ≡ Exit → FlowBy p i w → ⊥
exit_ends p w Exit e (inl g) = cc
exit_ends p w Exit e (inr j) = cc
exit_ends p w _ e f = cc

module _ (program : Checked) (slot : ℕ) where
  -- The function stands at the slot.
  no_way : (p : ℕ) → (p == slot) ≡ true → Way program slot (is_end_but program slot) p → ⊥
  no_way p e (way_there low is) = no_end (ends program p) (p == slot) is e
  no_way p e (way_on i off stands more w) = no_both (p == slot) e off
  no_way p e (way_jumped i q off stands jump to w) = no_both (p == slot) e off

  pub sure_there : (p : ℕ) → p < length program.insns → (p == slot) ≡ true → IsSure program slot p
  sure_there p low e = (way_there low e, no_way p e)

  -- A way goes on from where an instruction leads.
  way_by : (last : ℕ → Bool) (p w : ℕ) (i : Insn) → (p == slot) ≡ false → insn_at program p ≡ Some i → FlowBy p i w → Way program slot last w → Way program slot last p
  way_by last p w i off stands (inl g) rest = way_on i off stands g.0 (subst (λ (q : ℕ). Way program slot last q) g.1 rest)
  way_by last p w i off stands (inr j) rest = way_jumped i w off stands j.0 j.1 rest

  pub way_before : (last : ℕ → Bool) (p w : ℕ) → (p == slot) ≡ false → Flow program p w → Way program slot last w → Way program slot last p
  way_before last p w off f rest = way_by last p w f.insn off f.stands f.way rest

  -- Where all ways of an instruction lead to no end without the slot it has none to one.
  none_ends : (p w : ℕ) → Flow program p w → ((q : ℕ) → Flow program p q → Way program slot (is_end_but program slot) q → ⊥)
      → Way program slot (is_end_but program slot) p → ⊥
  none_ends p w f none (way_there low is) =
      let stands = ends_back program p (is_end (ends program p) (p == slot) is) in
      exit_ends p w f.insn (same_insn f.insn Exit (sym f.stands ∙ stands)) f.way
  none_ends p w f none (way_on i off stands more rest) = none (p + slots_of i) (record { insn = i; stands = stands; way = inl (more, refl) }) rest
  none_ends p w f none (way_jumped i q off stands jump to rest) = none q (record { insn = i; stands = stands; way = inr (jump, to) }) rest

  -- An instruction with two ways is a conditional jump, and it decides if just one of them is sure.
  decides : (p q : ℕ) (i : Insn) → (goes_on i || calls i) ≡ true → jumps i ≡ true → target_of p i ≡ Some (pos q)
      → JustOne (IsSure program slot (p + slots_of i)) (IsSure program slot q) → DecidesBy program slot p i
  decides p q (JumpIf condition width dst source offset) more jump to just = (q, to, just)
  decides p q _ more jump to just = absurd cc

  other_by : (p w q : ℕ) (i : Insn) → FlowBy p i w → FlowBy p i q → IsSure program slot w → Way program slot (is_end_but program slot) q
      → (DecidesBy program slot p i → ⊥) → ⊥
  other_by p w q i (inl g) (inl h) sure rest none = sure.1 (subst (λ (v : ℕ). Way program slot (is_end_but program slot) v) (h.1 ∙ sym g.1) rest)
  other_by p w q i (inr j) (inr k) sure rest none =
      sure.1 (subst (λ (v : ℕ). Way program slot (is_end_but program slot) v) (same_way q w (sym k.1 ∙ j.1)) rest)
  other_by p w q i (inl g) (inr k) sure rest none =
      none (decides p q i g.0 k.0 k.1 (inl (subst (λ (v : ℕ). IsSure program slot v) g.1 sure, λ s. s.1 rest)))
  other_by p w q i (inr j) (inl h) sure rest none =
      none (decides p w i h.0 j.0 j.1 (inr ((λ s. s.1 (subst (λ (v : ℕ). Way program slot (is_end_but program slot) v) h.1 rest)), sure)))

  -- Where an instruction leads surely that decides nothing it did so before.
  sure_by : (p w : ℕ) (t : Bool) → (p == slot) ≡ t → Flow program p w → IsSure program slot w
      → ((i : Insn) → insn_at program p ≡ Some i → DecidesBy program slot p i → ⊥) → IsSure program slot p
  sure_by p w true e f sure none = sure_there p (stands_within program p f.insn f.stands) e
  sure_by p w false e f sure none = (
    way_before (is_target slot) p w e f sure.0,
    none_ends p w f (λ q g rest.
        other_by p w q f.insn f.way (subst (λ (i : Insn). FlowBy p i q) (same_insn g.insn f.insn (sym g.stands ∙ f.stands)) g.way) sure rest (none f.insn f.stands)),
  )

  pub sure_before : (p w : ℕ) → Flow program p w → IsSure program slot w
      → ((i : Insn) → insn_at program p ≡ Some i → DecidesBy program slot p i → ⊥) → IsSure program slot p
  sure_before p w f sure none = sure_by p w (p == slot) refl f sure none

-- What holds of each slot on the way: that nothing is sure from there; and that an end from there is one from the first slot.
abbrev IsUnsure : Checked → ℕ → ℕ → Type 0
IsUnsure program slot v = IsStart program v × (IsSure program slot v → ⊥)

abbrev EndsFrom : Checked → ℕ → ℕ → ℕ → Type 0
EndsFrom program slot first v = Way program slot (is_end_but program slot) v → Way program slot (is_end_but program slot) first

-- What isn't sure comes by a branch that decides it.
leads_there : (x : State) (n slot : ℕ) → IsProgram x.program → IsStart x.program x.pc → (IsSure x.program slot x.pc → ⊥)
    → ComesTo x n slot → NoneDecides x n slot → ⊥
leads_there x n slot program start unsure came none =
    let last = follows x program n came.within (IsUnsure x.program slot) (start, unsure) each came.level in
    last.1 (sure_there x.program slot (state_after n x).pc (start_within x.program (state_after n x).pc last.0) (same (state_after n x).pc slot came.there))
  where
    none_at : (k : ℕ) → k < n → depth (state_after k x) ≡ depth x → (i : Insn) → insn_at x.program (state_after k x).pc ≡ Some i
        → DecidesBy x.program slot (state_after k x).pc i → ⊥
    none_at k low level i stands d =
        none k low level
        (subst (λ (p : Checked). (j : Insn) × (insn_at p (state_after k x).pc ≡ Some j) × DecidesBy p slot (state_after k x).pc j)
        (sym (program_after k x program)) (i, stands, d))

    each : (k w : ℕ) → k < n → depth (state_after k x) ≡ depth x → Flow x.program (state_after k x).pc w
        → IsUnsure x.program slot (state_after k x).pc → IsUnsure x.program slot w
    each k w low level f is = (
      flow_starts x.program program (state_after k x).pc w f,
      λ sure. is.1 (sure_before x.program slot (state_after k x).pc w f sure (none_at k low level)),
    )

pub branches_lead_there : BranchesLeadThere
branches_lead_there x n slot is unsure came none = leads_there x n slot is.checked is.start unsure came none

-- What is sure comes.
pub sure_is_come_to : SureIsComeTo
sure_is_come_to x n slot end is sure came stands never = sure.1 (follows x is.checked n came.within (EndsFrom x.program slot x.pc) (λ w. w) each came.level last)
  where
    each : (k w : ℕ) → k < n → depth (state_after k x) ≡ depth x → Flow x.program (state_after k x).pc w
        → EndsFrom x.program slot x.pc (state_after k x).pc → EndsFrom x.program slot x.pc w
    each k w low level f from rest =
        from (way_before x.program slot (is_end_but x.program slot) (state_after k x).pc w (apart (state_after k x).pc slot (never k (omega (arith, low)) level)) f rest)

    exits : insn_at x.program (state_after n x).pc ≡ Some Exit
    exits = ap (insn_at x.program) came.there ∙ stands

    last : Way x.program slot (is_end_but x.program slot) (state_after n x).pc
    last = way_there (stands_within x.program (state_after n x).pc Exit exits)
        (end_here (ends x.program (state_after n x).pc) ((state_after n x).pc == slot) (ends_there x.program (state_after n x).pc exits)
        (apart (state_after n x).pc slot (never n (omega arith) came.level)))

-- Of the two ways out of a branch one is sure: that which isn't unsure.
the_sure : (program : Checked) (slot p q a : ℕ) (i : Insn) → target_of p i ≡ Some (pos q) → JustOne (IsSure program slot (p + 1)) (IsSure program slot q)
    → IsWayOut p i a → ((IsSure program slot a → ⊥) → ⊥) → IsSure program slot a × ((b : ℕ) → IsWayOut p i b → b ≢ a → IsSure program slot b → ⊥)
the_sure program slot p q a i to (inl d) (inl e) known = (subst (λ (v : ℕ). IsSure program slot v) (sym e) d.0, others)
  where
    others : (b : ℕ) → IsWayOut p i b → b ≢ a → IsSure program slot b → ⊥
    others b (inl f) other sure = other (f ∙ sym e)
    others b (inr f) other sure = d.1 (subst (λ (v : ℕ). IsSure program slot v) (same_way b q (sym f ∙ to)) sure)
the_sure program slot p q a i to (inl d) (inr e) known =
    absurd (known (λ sure. d.1 (subst (λ (v : ℕ). IsSure program slot v) (same_way a q (sym e ∙ to)) sure)))
the_sure program slot p q a i to (inr d) (inl e) known = absurd (known (λ sure. d.0 (subst (λ (v : ℕ). IsSure program slot v) e sure)))
the_sure program slot p q a i to (inr d) (inr e) known =
    (subst (λ (v : ℕ). IsSure program slot v) (same_way q a (sym to ∙ e)) d.1, others)
  where
    others : (b : ℕ) → IsWayOut p i b → b ≢ a → IsSure program slot b → ⊥
    others b (inl f) other sure = d.0 (subst (λ (v : ℕ). IsSure program slot v) f sure)
    others b (inr f) other sure = other (same_way b a (sym f ∙ e))

-- The step of a conditional jump goes one of its ways.
taken_or_not : (x : State) (i : Insn) (offset : ℤ) (taken : Bool) → IsProgram x.program → insn_at x.program x.pc ≡ Some i
    → target_of x.pc i ≡ Some (pos (x.pc + 1) +ℤ offset) → IsWayOut x.pc i (if taken then target x offset else x.pc + 1)
taken_or_not x i offset true program stands to = inr (names x i offset program stands to)
taken_or_not x i offset false program stands to = inl refl

goes_out : (x : State) (condition : Condition) (width : Width) (dst : ℕ) (source : Source) (offset : ℤ) → IsProgram x.program
    → insn_at x.program x.pc ≡ Some (JumpIf condition width dst source offset) → IsWayOut x.pc (JumpIf condition width dst source offset) (next x).pc
unfolding change_by changed
goes_out x condition width dst source offset program stands =
    let i : Insn = JumpIf condition width dst source offset in
    subst (λ (y : State). IsWayOut x.pc i y.pc) (sym (ap (changed x) (change_at x i stands)))
    (taken_or_not x i offset (is_taken x condition width dst source) program stands refl)

out_flows : (program : Checked) (p w : ℕ) (condition : Condition) (width : Width) (dst : ℕ) (source : Source) (offset : ℤ)
    → insn_at program p ≡ Some (JumpIf condition width dst source offset) → IsWayOut p (JumpIf condition width dst source offset) w → Flow program p w
out_flows program p w condition width dst source offset stands (inl e) =
    record { insn = JumpIf condition width dst source offset; stands = stands; way = inl (refl, e) }
out_flows program p w condition width dst source offset stands (inr e) =
    record { insn = JumpIf condition width dst source offset; stands = stands; way = inr (refl, e) }

turned : (x : State) (n slot way : ℕ) (i : Insn) → IsProgram x.program → insn_at x.program x.pc ≡ Some i → DecidesBy x.program slot x.pc i
    → ComesTo (next x) n slot → NoneDecides (next x) n slot → IsWayOut x.pc i way → way ≢ (next x).pc
    → IsSure x.program slot (next x).pc × ((m : ℕ) → ComesTo (gone x way) m slot → NoneDecides (gone x way) m slot → ⊥)
turned x n slot way (JumpIf condition width dst source offset) program stands d came none out other = (
  just.0,
  λ m there undecided. leads_there (gone x way) m slot program (start way out) (just.1 way out other) there undecided,
)
  where
    start : (w : ℕ) → IsWayOut x.pc (JumpIf condition width dst source offset) w → IsStart x.program w
    start w to = flow_starts x.program program x.pc w (out_flows x.program x.pc w condition width dst source offset stands to)

    went : IsWayOut x.pc (JumpIf condition width dst source offset) (next x).pc
    went = goes_out x condition width dst source offset program stands

    kept : (next x).program ≡ x.program
    kept = (comes x program).program

    not_unsure : (IsSure x.program slot (next x).pc → ⊥) → ⊥
    not_unsure unsure =
        leads_there (next x) n slot (subst IsProgram (sym kept) program) (subst (λ (p : Checked). IsStart p (next x).pc) (sym kept) (start (next x).pc went))
        (λ sure. unsure (subst (λ (p : Checked). IsSure p slot (next x).pc) kept sure)) came none

    just : IsSure x.program slot (next x).pc
        × ((b : ℕ) → IsWayOut x.pc (JumpIf condition width dst source offset) b → b ≢ (next x).pc → IsSure x.program slot b → ⊥)
    just = the_sure x.program slot x.pc d.0 (next x).pc (JumpIf condition width dst source offset) d.1 d.2 went not_unsure
turned x n slot way _ program stands d came none out other = absurd d

pub turned_branches_lead_elsewhere : TurnedBranchesLeadElsewhere
turned_branches_lead_elsewhere x n slot way i is stands told out other =
    let d = told.decided in
    turned x n slot way i is.checked stands
    (subst (λ (j : Insn). DecidesBy x.program slot x.pc j) (same_insn d.0 i (sym d.1 ∙ stands)) d.2) told.came told.latest out other

pub lone_branches_are_passed_again : LoneBranchesArePassedAgain
lone_branches_are_passed_again x n m slot way i is stands told out other alone came never =
    (turned_branches_lead_elsewhere x n slot way i is stands told out other).1 m came none
  where
    none : NoneDecides (gone x way) m slot
    none k low level d =
        let kept = program_after k (gone x way) is.checked in
        never k (omega (arith, low)) level
        (alone (state_after k (gone x way)).pc d.0
        (subst (λ (p : Checked). insn_at p (state_after k (gone x way)).pc ≡ Some d.0) kept d.1)
        (subst (λ (p : Checked). DecidesBy p slot (state_after k (gone x way)).pc d.0) kept d.2))

-- What is kept isn't written.
unless_true : (b : Bool) → (b ≡ true → ⊥) → b ≡ false
unless_true true none = absurd (none refl)
unless_true false none = refl

pub kept_is_not_written : KeptIsNotWritten
kept_is_not_written x n places wall is never within level apart_from =
    unless_true (writes_one x.program places wall (state_after n x).pc)
    (λ writes. last.1 (way_there (start_within x.program (state_after n x).pc last.0) writes))
  where
    IsUnwritten : ℕ → Type 0
    IsUnwritten v = IsStart x.program v × (CanWrite x.program places wall v → ⊥)

    each : (k w : ℕ) → k < n → depth (state_after k x) ≡ depth x → Flow x.program (state_after k x).pc w
        → IsUnwritten (state_after k x).pc → IsUnwritten w
    each k w low deep f was = (
      flow_starts x.program is.checked (state_after k x).pc w f,
      λ can.
          was.1
          (way_before x.program wall.slot (writes_one x.program places wall) (state_after k x).pc w
          (apart (state_after k x).pc wall.slot (apart_from k (omega (arith, low)) deep)) f can),
    )

    last : IsUnwritten (state_after n x).pc
    last = follows x is.checked n within IsUnwritten (is.start, never) each level
