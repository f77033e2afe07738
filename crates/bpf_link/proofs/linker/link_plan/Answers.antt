use Rattle.std.proofs.Common.{◌∙◌, inl, inr, length, refl, sym, ap, subst}
use Rattle.bpf_isa.specs.Checker.{IsAccepted, IsRefused}
use Rattle.bpf_link.specs.Links.{least_maps, told_of}
use Rattle.bpf_link.specs.declared.fault.LinkFault.TheVariants.{Memory}
use Rattle.bpf_link.proofs.linker.link_plan.Goals as goal

pub told_of-requires : goal.told_of-requires
told_of-requires c =
    (c.least_maps.result, subst (λ words. IsRefused words c.least_maps.result c.in-Err-check.fault) (c.deref.ensures.value ∙ sym c.deref-in-Err-check.ensures.value) c.in-Err-check.ensures.fault)

pub returns : goal.returns
returns c =
    let program = c.in-Ok.program in
    let maps = rw c.as_slice.ensures.value at (rw c.len.ensures.value at c.least_maps.ensures) in
    record {
      ok = tt;
      err = inr (
        record { words = program.words.items; maps = length program.maps.items; data_maps = program.data_maps.items; answered = program.answered },
        c.in-Ok.ensures.ok.ok,
        inl (record {
          refusal = c.in-Err-check.fault;
          told = c.told_of.ensures ∙ ap (λ words. told_of c.args.plan.now words c.in-Err-check.fault) c.deref-in-Err-check.ensures.value;
          refused =
              subst (λ words. IsRefused words (least_maps (length program.maps.items) program.data_maps.items) c.in-Err-check.fault) c.deref.ensures.value
              (subst (λ m. IsRefused c.deref.result.now m c.in-Err-check.fault) maps c.in-Err-check.ensures.fault);
        }),
      );
    }

pub returns-in-Err-Memory-clause-err : goal.returns-in-Err-Memory-clause-err
returns-in-Err-Memory-clause-err c = inl (Memory, inl refl, refl)

pub returns-in-Ok-check-clause-err : goal.returns-in-Ok-check-clause-err
returns-in-Ok-check-clause-err c =
    let program = c.in-Ok.program in
    let maps = rw c.as_slice.ensures.value at (rw c.len.ensures.value at c.least_maps.ensures) in
    inr (
      record { words = program.words.items; maps = length program.maps.items; data_maps = program.data_maps.items; answered = program.answered },
      c.in-Ok.ensures.ok.ok,
      inr (record {
        accepted =
            subst (λ words. IsAccepted words (least_maps (length program.maps.items) program.data_maps.items)) c.deref.ensures.value
            (subst (IsAccepted c.deref.result.now) maps c.in-Ok-check.ensures.ok);
        why = c.in-Err-with_shapes.ensures.err;
      }),
    )
