use Rattle.std.proofs.Common.{◌∙◌, ap₂, Some}
use Rattle.counted_io.proofs.Appending.{WritesAfter-text}
use Rattle.bpf_diff.proofs.Comparing.{along-some, alike-none, alike-some}
use Rattle.bpf_diff.proofs.Following.{took-start}
use Rattle.bpf_diff.proofs.Telling.{begun-none, begun-some, nothing-more}
use Rattle.bpf_diff.proofs.Valuing.{no-values, some-values}
use Rattle.bpf_diff.specs.Values.{Value}
use Rattle.bpf_diff.proofs.diff.put_begun.Goals as goal

pub put_otherwise-written-requires-clause-first : goal.put_otherwise-written-requires-clause-first
put_otherwise-written-requires-clause-first g c =
    let p = rw c.in-Some.is at c.go_alike-agreed.ensures in
    took-start p.p c.go_alike-agreed.new.first c.in-Some.parted.first p.first

pub put_otherwise-written-requires-clause-second : goal.put_otherwise-written-requires-clause-second
put_otherwise-written-requires-clause-second g c =
    let p = rw c.in-Some.is at c.go_alike-agreed.ensures in
    took-start p.q c.go_alike-agreed.new.second c.in-Some.parted.second p.second

pub returns-in-None-clause-text : goal.returns-in-None-clause-text
returns-in-None-clause-text g c =
    let p = rw c.in-None.is at c.go_alike-agreed.ensures in
    nothing-more g.W.Write.contents c.args.writer.now c.args.so_far _
    (begun-none c.args.texts c.args.limit c.go_alike-agreed.result.steps c.args.first.now c.args.second.now c.go_alike-agreed.new.first c.go_alike-agreed.new.second p.0 p.1)

pub returns-in-None-clause-alike : goal.returns-in-None-clause-alike
returns-in-None-clause-alike g c =
    let p = rw c.in-None.is at c.go_alike-agreed.ensures in
    alike-none c.args.limit c.go_alike-agreed.result.steps c.args.first.now c.args.second.now c.go_alike-agreed.new.first c.go_alike-agreed.new.second p.0 p.1

pub returns-in-Some-clause-text : goal.returns-in-Some-clause-text
returns-in-Some-clause-text g c =
    let p = rw c.in-Some.is at c.go_alike-agreed.ensures in
    WritesAfter-text g.W.Write.contents _ _ _ _ _ _ (c.put_otherwise-written.ensures p.p p.q p.first p.second)
    (begun-some c.args.texts c.args.limit c.go_alike-agreed.result.steps c.args.first.now c.args.second.now c.go_alike-agreed.new.first c.go_alike-agreed.new.second c.in-Some.parted p)

pub returns-in-Some-clause-along : goal.returns-in-Some-clause-along
returns-in-Some-clause-along g c =
    let p = rw c.in-Some.is at c.go_alike-agreed.ensures in
    along-some c.args.limit c.go_alike-agreed.result.steps c.args.first.now c.args.second.now c.go_alike-agreed.new.first c.go_alike-agreed.new.second c.in-Some.parted p

pub returns-in-Some-clause-alike : goal.returns-in-Some-clause-alike
returns-in-Some-clause-alike g c =
    let p = rw c.in-Some.is at c.go_alike-agreed.ensures in
    alike-some c.args.limit c.go_alike-agreed.result.steps c.args.first.now c.args.second.now c.go_alike-agreed.new.first c.go_alike-agreed.new.second c.in-Some.parted p

pub returns-in-None-clause-values : goal.returns-in-None-clause-values
returns-in-None-clause-values g c =
    let p = rw c.in-None.is at c.go_alike-agreed.ensures in
    no-values c.args.limit c.go_alike-agreed.result.steps c.args.first.now c.args.second.now c.go_alike-agreed.new.first c.go_alike-agreed.new.second p.0 p.1

pub returns-in-Some-clause-values : goal.returns-in-Some-clause-values
returns-in-Some-clause-values g c =
    let p = rw c.in-Some.is at c.go_alike-agreed.ensures in
    ap₂ (λ (v w : Value). Some (v, w)) (c.values_written-one.ensures p.p p.first) (c.values_written-another.ensures p.q p.second)
    ∙ some-values c.args.limit c.go_alike-agreed.result.steps c.args.first.now c.args.second.now c.go_alike-agreed.new.first c.go_alike-agreed.new.second c.in-Some.parted p
