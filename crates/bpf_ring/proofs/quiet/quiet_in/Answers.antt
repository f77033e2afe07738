use Rattle.std.proofs.Common.{◌≡◌, ℕ, length, subst, arith}
use Rattle.bpf_ring.proofs.QuietLaws.{quiet_none, quiet_on}
use Rattle.bpf_ring.specs.Quiet.{IsQuietTo}
use Rattle.bpf_ring.proofs.quiet.quiet_in.Goals as goal

pub loop-count-init : goal.loop-count-init
loop-count-init c = record {
  within = omega arith;
  quiet = λ front ks held. quiet_none c.args.address c.args.value c.args.depth front c.args.text.now ks held;
}

pub loop-count-preserved : goal.loop-count-preserved
loop-count-preserved c =
    let i = c.loop-count.invariant in
    record {
      within = omega (arith, i.within);
      quiet = λ front ks held. quiet_on _ _ _ _ _ _ _ _ front c.args.text.now ks i.within c.in-Some.ensures (i.quiet front ks held);
    }

pub returns-clause-quiet : goal.returns-clause-quiet
returns-clause-quiet c = λ front ks held.
    let all : c.loop-count.count ≡ length c.args.text.now = omega (arith, c.loop-count-test.false, c.loop-count.auto.count-end) in
    subst (λ (n : ℕ). IsQuietTo c.args.address c.args.value c.args.depth front c.args.text.now ks (record { count = n; place = c.loop-count.place; depth = c.loop-count.deep })) all (c.loop-count.invariant.quiet front ks held)
