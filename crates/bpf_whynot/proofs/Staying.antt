-- Where a goal is out of reach it stays so: from a state to which a step leads no goal can be come to that couldn't be before it.
use Rattle.std.proofs.Common.{◌≡◌, ◌<◌, ℕ, zero, suc, Bool, true, false, List, length, refl, sym, ap, ◌∙◌, arith}
use Rattle.std.specs.Prelude.{if◌then◌else◌}
use Rattle.bpf_isa.specs.Programs.{Checked, IsProgram}
use Rattle.bpf_steps.specs.Platform.{frame_count}
use Rattle.bpf_steps.specs.Runs.{state_after}
use Rattle.bpf_steps.specs.State.{State}
use Rattle.bpf_whynot.specs.Laws.{OutOfReachStays}
use Rattle.bpf_whynot.specs.Reach.{CanReach, can_from, is_goal, return_slots}
use Rattle.bpf_whynot.specs.Reach.CanReach.{there, on as reach_on, jumped as reach_jumped, called as reach_called, returned as reach_returned}
use Rattle.bpf_whynot.proofs.Onward.{Onward, as_deep, leads_after, ran_before}
use Rattle.bpf_whynot.proofs.Onward.Onward.{still, on, jumped, called, returned}

reach_before : (program : Checked) (goals : List ℕ) (p q : ℕ) (ps qs : List ℕ) → Onward program p ps q qs → CanReach program goals q qs → CanReach program goals p ps
reach_before program goals p q ps qs still from = from
reach_before program goals p q ps qs (on i stands goes) from = reach_on i stands goes from
reach_before program goals p q ps qs (jumped i to stands jump names) from = reach_jumped i to stands jump names from
reach_before program goals p q ps qs (called i to stands call names room) from = reach_called i to stands call names room from
reach_before program goals p q ps qs (returned stands) from = reach_returned stands from

reach_first : (goals : List ℕ) (n : ℕ) (x : State) → IsProgram x.program
    → CanReach x.program goals (state_after n x).pc (return_slots (state_after n x)) → CanReach x.program goals x.pc (return_slots x)
reach_first goals zero x program from = from
reach_first goals (suc n) x program from = reach_first goals n x program (reach_before x.program goals _ _ _ _ (leads_after n x program) from)

pub out_of_reach_stays : OutOfReachStays
out_of_reach_stays can goals x n is tells gone runs = by_test (is_goal goals (state_after n x).pc) refl
  where
    shallow : length (return_slots x) < frame_count
    shallow = let deep = as_deep x in let low = is.shallow in omega (arith, deep, low)

    told : can_from can x ≡ can x.pc (return_slots x)
    told = ap (λ (ended : Bool). if ended then false else can x.pc (return_slots x)) (ran_before n x is.checked runs)

    clash : false ≡ true → ⊥
    clash e = cc

    by_test : (b : Bool) → is_goal goals (state_after n x).pc ≡ b → is_goal goals (state_after n x).pc ≡ false
    by_test false e = e
    by_test true e =
        let could : can x.pc (return_slots x) ≡ true = (tells x.pc (return_slots x) shallow).1 (reach_first goals n x is.checked (there e)) in
        absurd (clash (sym gone ∙ told ∙ could))
