-- `bytes_mut` lends the run where it is present, and memory follows it. The code is walked by hand, since no
-- `Option` around a lent slice gets a generated proof.
use Rattle.std.proofs.Common.{◌≡◌, ◌≤◌, ◌<◌, ◌^◌, ◌==◌, ℕ, List, [], ◌∷◌, length, refl, ap, lit<, w64, MutBor}
use Rattle.std.specs.Prelude.{unwrap_or, if◌then◌else◌}
use Rattle.std.proofs.raw_atomic.Walks.{proved}
use Rattle.std.proofs.VecSteps.Element.{Some-of, none_of}
use Rattle.std.specs.declared.option.Option.TheVariants.{None, Some}
use Rattle.std.specs.contracts.option.Option as OP
use lib.Dec.{eqb→eq}
use base.Logic.{emp, id⊢, via}
use base.Fml.{ftrue, flft, fres}
use contract.Monad.{fact, fact_i}
use contract.Running.{tables}
use mir.Syntax.{named}
use mir.Val.{Val, of_list}
use types.Kit.{‵, raw, ◌⊛◌, some, later, at_ret, ◌$◌, ◌∵◌, !, qed, move, keep, drop, use0, use1, use2, split, join, fsplit3, fjoin, pick, await, rewrite, suffices, frame, done}
use types.Run.{enter, of_opd, bin, lit, addr, stop, fld, hop, from, no_more, and_then, first, branches, exec, returns}
use types.ByLocal.{alloc_all, pass_all, free_all, look_at, look_in_at, get, get_in, through, sets, sets_last, lands_as, env}
use types.Part.{agg, whole, sub}
use types.Match.{live}
use denote.Array.{Array}
use denote.Builtin.{u8, u64, usize}
use denote.Exit.{yes, no}
use denote.Follow.{follows, follows_by, followed}
use denote.Laws.{Is, shows}
use denote.Plain.{uint_vals, uint_Tells}
use denote.Ref.{mut_vals, mut_Tells}
use denote.RattleType.{RattleType}
use denote.Signature.{plain, mut_ref_to}
use denote.FollowSlice.{finally-res}
use denote.Slice.{MutSlice, slice_val, finally, res-finally}
use denote.Steps.{nothing, heard, peeks, only}
use denote.Triple.Call.{calls_at}
use denote.Triple.Clauses.{lasts}
use denote.Triple.Entry.{on_entry}
use denote.Triple.Spec.{triple_of}
use denote.Triple.Table.{framed}
use denote.Triple.Walked.{Stays, walk_of, stay_dropped, Goes-dropped, Goes-spent_ref, ends_at}
use Rattle.bpf_steps.specs.Regions.{Image, run_at, index_of, with_bytes}
use Rattle.bpf_steps.proofs.Facts.{says_both}
use Rattle.bpf_steps.proofs.Loans.{as_it_was, put_is, none_by, some_by, positive}
use Rattle.bpf_steps.specs.contracts.memory.Memory.{the_row as R}
use Rattle.bpf_steps.specs.contracts.memory.Memory.bytes_mut as f
use Rattle.bpf_steps.specs.contracts.memory.Memory.run_or_none as g
use Rattle.bpf_steps.proofs.memory.Memory.run_or_none.Met.{met}
use Rattle.bpf_steps.proofs.memory.Memory.bytes_mut.Statement.{statement}
use Rattle.bpf_steps.proofs.memory.Memory.bytes_mut.Code as code

abbrev stayed : Stays f.ended.signature.params f.ended.kept
stayed = (stay_dropped (mut_ref_to (0 ∷ []) tt (plain (λ _. R))) no, (stay_dropped (plain (λ _. u64)) yes, (stay_dropped (plain (λ _. usize)) yes, tt)))

pub bytes_mut_spec : {M : Type 1} → statement M
unfolding follows_by
bytes_mut_spec 𝓤 𝓛 𝓜 𝓡 wired =
    let c = f.clauses 𝓛 𝓜.mem 𝓡.returns in let W = walk_of 𝓛 f.ended stayed c in let 𝓣 = tables 𝓤 𝓛.H 𝓜 𝓡 𝓡.env in
    proved 𝓛 f.ended stayed c 𝓜 𝓡 (Goes-spent_ref 𝓛 1 (0 ∷ []) tt (plain (λ _. R)), (Goes-dropped 𝓛 1 (plain (λ _. u64)) yes (λ κs x w. refl), (Goes-dropped 𝓛 1 (plain (λ _. usize)) yes (λ κs x w. refl), tt)))
    f.Key.name code.function (code.unfolded 𝓤 𝓛.H 𝓜 𝓡 wired)
    (λ κs. (mut_vals, (uint_vals w64, (uint_vals w64, tt)))) (λ κs. (mut_Tells (named 0) κs.0 R, (uint_Tells w64, (uint_Tells w64, tt)))) (λ κs qs bounds a _ are.
    let κ = κs.0 in let q = qs.0 in let m = a.0.now in let address = a.1.0 in let n = a.1.1.0 in
    let G = triple_of 𝓛 g.signature (g.spec 𝓛 𝓜.mem 𝓡.returns) in
    let y : W.Ghost = ((κs, qs, bounds, a, (mut_vals a.0, (uint_vals w64 address, (uint_vals w64 n, tt)))), tt) in
    let z : G.Ghost = ((κs, qs, bounds, a, (mut_vals a.0, (uint_vals w64 address, (uint_vals w64 n, tt)))), tt) in
    let there = with_bytes m (unwrap_or (index_of m address n) 0) in
    let Sl : RattleType = MutSlice (named 0) κ u8 in
    qed 𝓛 (raw (on_entry 𝓛 f.signature κs qs a y.0.4) ∷ raw (fact 𝓤 (1 ≤ n)) ∷ []) ∵ move ! (1 ∷ []) $ heard ! _ (λ some_bytes.
    use0 𝓛 (raw (fact 𝓤 (1 ≤ n))) (fact_i 𝓤 _ (emp 𝓤) some_bytes) $ move ! (1 ∷ 0 ∷ []) $ join ! $ use1 𝓛 (raw (G.pre z)) (id⊢ 𝓤 _) $
    enter ! _ _ _ _ _ $
    alloc_all ! (λ l. pass_all ! refl ((tt, tt), ((tt, record { fits = are.1.0.1 }), ((tt, record { fits = are.1.1.0.1 }), tt))) $
    sets ! (addr ! (through ! refl (stop !))) refl (tt, tt) $
    calls_at ! (framed 𝓤 𝓛.H 𝓜 𝓣) G (met 𝓤 𝓛 𝓜 𝓡 (code.calls-bpf_steps::memory::Memory::run_or_none 𝓡.env wired)) z
    (and_then ! (get ! refl) (and_then ! (get ! refl) (and_then ! (get ! refl) (no_more !)))) (λ v.
    use1 𝓛 (later (some (λ (r : MutBor (List ℕ)). ((‵ (flft κ q) ⊛ ‵ ftrue) ⊛ ‵ (Sl.own_val r (v ∷ []))) ⊛
    some (λ (ws : Unit {0} × (Unit {0} × (Unit {0} × Unit {0}))). ‵ (lasts g.ended κs a ws) ⊛ (‵ (follows R (Array u8 0) a.0.ghost_name r.ghost_name (with_bytes m (unwrap_or (index_of m address n) 0))) ⊛
    raw (fact 𝓤 ((if length r.now == 0 then None else Some r.now) ≡ run_at m address n)) ⊛ raw (fact 𝓤 (0 < length r.now → length r.now ≡ n))))))) (id⊢ 𝓤 _) $
    await ! tt $ pick ! (λ r. split ! $ split ! $ split ! $ move ! (3 ∷ []) $ pick ! (λ ws. split ! $ drop ! $ split ! $ move ! (1 ∷ []) $ split ! $ heard ! _ (λ is_now. heard ! _ (λ as_long.
    -- [what memory follows; the token; nothing; the run]
    move ! (2 ∷ []) $ drop ! $ move ! (2 ∷ 0 ∷ 1 ∷ []) $ peeks ! Sl (Is Sl) (shows 𝓛 Sl) r (v ∷ []) (λ is.
    rewrite ! 0 (λ (us : List Val). ‵ (Sl.own_val r us)) is.0.0 refl $
    let fits : length r.now < 2 ^ 64 = is.0.1.0 in
    lands_as ! (ap only is.0.0) refl (tt, (tt, (record { fits = fits }, tt))) $
    sets ! (of_opd ! (get_in ! (fld ! refl (stop !)) (sub ! 1 refl (whole !)))) refl (tt, record { fits = fits }) $
    sets ! (bin ! (get ! refl) (lit ! tt) tt) refl (tt, tt) $
    first ! $ branches ! (get ! refl)
    (λ empty. sets_last ! (agg ! (and_then ! (lit ! tt) (no_more !))) refl (tt, (record { fits = lit< tt }, tt)) $
    exec ! 𝓣.C 𝓣.Λ (env code.Mir.locals l) code.Mir.t-6 (at_ret _ (W.post y)) $
    sets ! (of_opd ! (get ! refl)) refl (tt, (record { fits = lit< tt }, tt)) $
    returns ! (look_at ! 0 refl) $ free_all ! refl $
    fsplit3 ! $ drop ! $ use1 𝓛 (‵ (finally u8 r.ghost_name r.now)) (via 𝓤 _ (𝓛.names.obs-res r.ghost_name _) (res-finally 𝓛 (named 0) κ u8 r.ghost_name r.now)) $
    use1 𝓛 (‵ (fres r.ghost_name ((Array u8 0).coded.code r.now))) (finally-res 𝓛 u8 r.ghost_name r.now) $
    move ! (2 ∷ 0 ∷ []) $ use2 𝓛 (‵ (fres a.0.ghost_name (R.coded.code (there r.now)))) (followed 𝓛 R (Array u8 0) there a.0.ghost_name r.ghost_name r.now) $
    rewrite ! 0 (λ (w : Image). ‵ (fres a.0.ghost_name (R.coded.code w))) (as_it_was m (unwrap_or (index_of m address n) 0) r.now (eqb→eq (length r.now) 0 empty)) refl $
    keep ! (0 ∷ 2 ∷ []) $
    use0 𝓛 (‵ ((OP.the_row Sl).own_val None (live 0 (of_list []) ∷ []))) (none_of 𝓛 Sl) $ move ! (0 ∷ 2 ∷ 1 ∷ []) $
    suffices ! _ (ends_at 𝓛 f.ended stayed c y (live 0 (of_list [])) None (tt, (tt, (tt, tt))) (tt, (tt, (tt, tt)))) $
    nothing ! $ nothing ! $ fjoin ! $ nothing ! $ fjoin ! $ nothing ! $ fjoin ! $ join ! $ nothing ! $ move ! (2 ∷ 0 ∷ []) $ join ! $ join ! $ frame ! $
    says_both ! (none_by (length r.now == 0) r.now (run_at m address n) empty is_now, tt) $ done !)
    (λ full.
    let lent : Val = slice_val r.ref_ptr (length r.now) in
    let found = some_by (length r.now == 0) r.now (run_at m address n) full is_now in
    sets ! (addr ! (from ! (fld ! refl (hop ! (look_in_at ! 4 (sub ! 0 refl (whole !))) (stop !))))) refl (tt, tt) $
    sets ! (agg ! (and_then ! (get ! refl) (and_then ! (get_in ! (fld ! refl (stop !)) (sub ! 1 refl (whole !))) (no_more !)))) refl (tt, (tt, (record { fits = fits }, tt))) $
    sets_last ! (agg ! (and_then ! (lit ! tt) (and_then ! (get ! refl) (no_more !)))) refl (tt, (record { fits = lit< tt }, ((tt, (record { fits = fits }, tt)), tt))) $
    exec ! 𝓣.C 𝓣.Λ (env code.Mir.locals l) code.Mir.t-6 (at_ret _ (W.post y)) $
    sets ! (of_opd ! (get ! refl)) refl (tt, (record { fits = lit< tt }, ((tt, (record { fits = fits }, tt)), tt))) $
    returns ! (look_at ! 0 refl) $ free_all ! refl $
    rewrite ! 1 (λ (F : List ℕ → Image). ‵ (follows R (Array u8 0) a.0.ghost_name r.ghost_name F)) (put_is m address n r.now found) refl $
    keep ! (0 ∷ 1 ∷ 2 ∷ []) $
    use1 𝓛 (‵ ((OP.the_row Sl).own_val (Some r) (live 1 (of_list (lent ∷ [])) ∷ []))) (Some-of 𝓛 Sl r lent) $ move ! (0 ∷ 2 ∷ 1 ∷ []) $
    suffices ! _ (ends_at 𝓛 f.ended stayed c y (live 1 (of_list (lent ∷ []))) (Some r) (tt, (tt, (tt, tt))) (tt, (tt, (tt, tt)))) $
    nothing ! $ nothing ! $ fjoin ! $ nothing ! $ fjoin ! $ nothing ! $ fjoin ! $ join ! $ nothing ! $ move ! (2 ∷ 0 ∷ []) $ join ! $ join ! $ frame ! $
    says_both ! (found, as_long (positive _ full)) $ done !))))))))))
