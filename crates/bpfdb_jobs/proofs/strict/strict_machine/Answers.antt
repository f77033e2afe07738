use Rattle.std.proofs.Common.{◌≡◌, ◌∙◌, Bool, None, Option, ap, false, sym, true}
use Rattle.std.specs.Prelude.{if◌then◌else◌}
use Rattle.bpf_isa.specs.Programs.{Checked}
use Rattle.bpf_steps.specs.State.{State}
use Rattle.bpf_trace.specs.Written.{unwritten_of}
use Rattle.bpf_trace.specs.declared.own_code.OwnCode.{OwnCode}
use Rattle.bpf_trace.specs.declared.strict_run.Unwritten.{Unwritten}
use Rattle.bpfdb_jobs.specs.Jobs.{begun_for, unwritten_in}
use Rattle.bpfdb_jobs.specs.declared.job.Job.{Job}
use Rattle.bpfdb_jobs.proofs.strict.strict_machine.Goals as goal

not-strict : (strict : Bool) (own : OwnCode) (job : Job) (x : State) → strict ≡ false → None ≡ unwritten_in strict own job x
not-strict strict own job x is = ap (λ (b : Bool). if b then unwritten_of own job.options.limit x else None) (sym is)

is-strict : (strict : Bool) (own : OwnCode) (job : Job) (x y : State) (read : Option Unwritten) → strict ≡ true → y ≡ x → read ≡ unwritten_of own job.options.limit x
    → read ≡ unwritten_in strict own job y
is-strict strict own job x y read is e found =
    found ∙ ap (unwritten_of own job.options.limit) (sym e) ∙ ap (λ (b : Bool). if b then unwritten_of own job.options.limit y else None) (sym is)

pub returns-then-not-is_strict-clause-ok : goal.returns-then-not-is_strict-clause-ok
returns-then-not-is_strict-clause-ok c = (c.in-Ok.ensures.ok, not-strict c.args.is_strict c.args.own c.args.job.now c.in-Ok.cpu c.if-not-is_strict.true)

pub returns-in-Ok-open_again-clause-ok : goal.returns-in-Ok-open_again-clause-ok
returns-in-Ok-open_again-clause-ok c =
    let o = c.in-Ok.ensures.ok in
    let program = c.find_unwritten-unwritten.ensures.program ∙ ap (λ (s : State). s.program) o.2 in
    let again = c.in-Ok-open_again.ensures.ok.1 ∙ ap (λ (p : Checked). begun_for c.args.job.now.options p c.args.job.now.context.now) program in
    ((o.0, o.1, again), is-strict c.args.is_strict c.args.own c.args.job.now c.in-Ok.cpu _ _ c.if-not-is_strict.false (again ∙ sym o.2) c.find_unwritten-unwritten.ensures.found)

pub returns-clause-err : goal.returns-clause-err
returns-clause-err c = c.in-Err-open_again.ensures.err
