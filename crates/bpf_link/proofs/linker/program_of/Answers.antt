use Rattle.std.proofs.Common.{◌≡◌, ◌≤◌, ◌+◌, ◌∙◌, Ok, length, sym, ap, rules, tests, arith}
use Rattle.std.proofs.lemmas.List.{length-map}
use Rattle.bpf_link.specs.Data.{numbered}
use Rattle.bpf_link.proofs.Laid.{laid_out}
use Rattle.bpf_link.proofs.linker.program_of.Goals as goal

pub returns-clause-ok : goal.returns-clause-ok
returns-clause-ok c =
    let found = c.in-Ok-data_of.ensures.ok ∙ ap Ok (sym c.as_slice-taken.ensures.value) in
    let size : length c.data_shapes-data_maps.result.items ≡ length c.as_slice-taken.result.now = ap length c.data_shapes-data_maps.ensures.value ∙ length-map _ _ in
    let own : length c.as_slice-own.result.now ≡ length c.in-Ok.maps.items = ap length c.as_slice-own.ensures.value in
    let few : length c.in-Ok.maps.items + length c.data_shapes-data_maps.result.items ≤ 16 = omega (arith, size, own, c.if-own-taken-gt-MOST_MAPS.false) in
    record {
      ok = search (rules, tests);
      laid =
          laid_out (numbered c.args.plan.now c.as_slice-own.result.now c.as_slice-taken.result.now) c.args.slot c.args.reach.now c.args.stubs.now _ c.requires.inside c.invariant.ensures
          (c.in-Ok.ensures.ok ∙ ap Ok (sym c.as_slice-own.ensures.value)) found c.in-Ok-numbered_words.ensures.ok;
      own = record { few = few; maps = c.in-Ok.ensures.ok; of_data = (c.as_slice-taken.result.now, found, c.data_shapes-data_maps.ensures.value); names = record { maps = c.as_slice-own.result.now; taken = c.as_slice-taken.result.now; found = c.in-Ok.ensures.ok ∙ ap Ok (sym c.as_slice-own.ensures.value); referred = found; named = c.map_names-names.ensures } };
      possible = c.data_shapes-data_maps.ensures.possible;
    }
