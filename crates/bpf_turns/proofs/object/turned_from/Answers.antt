use Rattle.std.proofs.Common.{◌≡◌, ◌∙◌, ℕ, List, Ok, ap, sym}
use Rattle.bpf_turns.specs.Calls.{calls_of}
use Rattle.bpf_turns.specs.Ext.{HasMovedExt}
use Rattle.bpf_turns.specs.Objects.{turned_bytes}
use Rattle.bpf_turns.specs.Seats.{seats_of}
use Rattle.bpf_turns.specs.Turned.{IsTurnedFrom, fitted}
use Rattle.bpf_turns.specs.declared.seats.Seat.{Seat}
use Rattle.bpf_turns.specs.declared.source.Source.{Source}
use Rattle.bpf_turns.proofs.object.turned_from.Goals as goal

-- the object of programs that are there and fit
object_of : (source : Source) (texts : List (List ℕ)) (found seats : List Seat) (all : List ℕ) → seats_of source.plan source.only texts ≡ Ok found → seats ≡ found
    → fitted source seats ≡ Ok seats
    → ((ext : List ℕ) × HasMovedExt source.plan (calls_of source.plan.object seats) ext × (all ≡ turned_bytes source seats ext)) → IsTurnedFrom source texts all
object_of source texts found seats all there same fit told = record {
  seats = seats;
  are_seats = there ∙ ap Ok (sym same);
  fit = fit;
  ext = told.0;
  moved = told.1;
  made = told.2;
}

pub returns-in-Ok-turned_with-clause-ok : goal.returns-in-Ok-turned_with-clause-ok
returns-in-Ok-turned_with-clause-ok c =
    object_of c.args.source.now _ c.in-Ok.seats.items c.as_slice.result.now c.in-Ok-turned_with.all.items c.in-Ok.ensures.ok c.as_slice.ensures.value
    c.in-Ok-turned_with.ensures.fit c.in-Ok-turned_with.ensures.ok
