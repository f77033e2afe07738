use Rattle.std.proofs.Common.{◌≡◌, Ok, ap, sym, subst, ◌∙◌}
use Rattle.bpf_join.specs.Joined.{joined_bytes}
use Rattle.bpf_join.specs.Records.{places_of}
use Rattle.bpf_join.proofs.Joining.{told_at}
use Rattle.bpf_join.proofs.joined.join_plans.Goals as goal

pub returns-in-Ok-with_sections-clause-ok : goal.returns-in-Ok-with_sections-clause-ok
returns-in-Ok-with_sections-clause-ok c = record {
  table = c.in-Ok.table;
  is_ready = sym c.ready.ensures.value ∙ c.in-Ok.is;
  no_pointers = sym c.has_pointers.ensures ∙ c.if-has_pointers.false;
  places = c.in-Ok-places_of.places.items;
  found = subst (λ l. places_of c.args.first.now l ≡ Ok c.in-Ok-places_of.places.items) c.answers_lookups.ensures c.in-Ok-places_of.ensures.ok;
  records = c.in-Ok-records_of.records.items;
  told =
      told_at c.args.first.now c.in-Ok-places_of.places.items _ _ _ _ c.as_slice.ensures.value c.as_slice-2.ensures.value c.has_types-has_types.ensures
      c.in-Ok-records_of.ensures.ok;
  whole_is =
      c.in-Ok-with_sections.ensures.ok
      ∙ (ap (λ p. joined_bytes c.args.first.now c.args.second.now c.in-Ok.table p c.as_slice-4.result.now) c.as_slice-3.ensures.value
      ∙ ap (λ r. joined_bytes c.args.first.now c.args.second.now c.in-Ok.table c.in-Ok-places_of.places.items r) c.as_slice-4.ensures.value);
}
