use Rattle.std.proofs.Common.{Some, refl}
use Rattle.bpf_journal.specs.contracts.ring_keeper.RingKeeperKeeper.TheImpl as impl
use Rattle.bpf_journal.proofs.Handing.{handed_over, not_both, taken_over}
use Rattle.bpf_journal.proofs.RingKeeping.{holds_way}
use Rattle.bpf_journal.proofs.ring_keeper.RingKeeperKeeper.hand_back.Goals as goal

pub hand_back-requires : goal.hand_back-requires
hand_back-requires c =
    let i = c.requires.way in
    holds_way c.args.self.now.ring c.args.self.now.counts c.args.cpu.now i.history i.stands.0 i.stands.1

pub returns-in-Some : goal.returns-in-Some
returns-in-Some c = record {
  hands = λ es ls held into.
      handed_over impl.ghosts.holds c.args.self.now c.args.self.now es ls c.in-Some.tag _ _
      c.in-Some.ensures.none c.in-Some.ensures.edit (λ ks k h step. c.in-Some.ensures.handed ks ls k h step into) held;
  back = λ h stands.
      taken_over impl.ghosts.holds c.args.self.now _ h c.args.cpu.now c.hand_back.new.cpu c.in-Some.tag c.of_tag.result
      c.in-Some.ensures.none c.in-Some.ensures.edit c.in-Some.ensures.some c.in-Some.ensures.back c.of_tag.ensures stands;
  stays = λ none. absurd (not_both (Some c.of_tag.result) none refl);
  ring_size = c.in-Some.ensures.size.1;
  refused = refl;
  room = c.in-Some.ensures.size.0;
}
