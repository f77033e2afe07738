use Rattle.std.proofs.Common.{◌≡◌, ◌+◌, ◌-◌, ℕ, List, add-one, arith, subst, sym}
use Rattle.std.specs.Prelude.{Option}
use Rattle.bpf_link.specs.Missing.{is_called}
use Rattle.bpf_load.specs.Targets.{contents}
use Rattle.bpfdb.specs.Parts.{GivesBelow, GivesOne, part_path}
use Rattle.bpfdb.proofs.parts.read_others.Goals as goal

-- one more helper
one_more : (bytes_at : List ℕ → Option (List ℕ)) (folder calls : List ℕ) (n : ℕ) (before all : List (List ℕ)) → GivesBelow bytes_at folder calls n before
    → GivesOne (is_called calls (211 - n)) (bytes_at (part_path folder (211 - n))) before all → GivesBelow bytes_at folder calls (n + 1) all
one_more bytes_at folder calls n before all made gives = subst (λ m. GivesBelow bytes_at folder calls m all) (sym (add-one n)) (before, made, gives)

pub loop-n-preserved : goal.loop-n-preserved
loop-n-preserved g c =
    one_more (g.F.Opener.bytes_at c.args.files.now) c.args.folder.now c.args.calls.now c.loop-n.n (contents c.loop-n.parts.items) (contents c.in-Some.more.items)
    c.loop-n.invariant c.in-Some.ensures

pub returns : goal.returns
returns g c =
    let end : c.loop-n.n ≡ 210 = omega arith in
    subst (λ m. GivesBelow (g.F.Opener.bytes_at c.args.files.now) c.args.folder.now c.args.calls.now m (contents c.loop-n.parts.items)) end
    c.loop-n.invariant
