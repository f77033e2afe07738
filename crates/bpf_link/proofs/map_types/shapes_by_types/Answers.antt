use Rattle.std.proofs.Common.{inl, inr, ⊎_elim, subst, arith}
use Rattle.std.proofs.lemmas.List.Sorted.{length_permutation}
use Rattle.bpf_btf.specs.Sections.{IsRead, IsReadFault}
use Rattle.bpf_link.proofs.map_types.shapes_by_types.Goals as goal

pub returns-in-Err-clause-err : goal.returns-in-Err-clause-err
returns-in-Err-clause-err c =
    ⊎_elim (λ memory. inl memory)
    (λ told. inr (inl (record { why = c.in-Err.fault; told = told; unread = subst (λ bytes. IsReadFault bytes c.in-Err.fault) c.types_in.ensures c.in-Err.ensures.err })))
    c.told_of_types.ensures

pub returns-in-Ok-typed_shapes-clause-ok : goal.returns-in-Ok-typed_shapes-clause-ok
returns-in-Ok-typed_shapes-clause-ok c = record {
  types = c.in-Ok.types;
  read = subst (λ bytes. IsRead bytes c.in-Ok.types) c.types_in.ensures c.in-Ok.ensures.ok;
  ordered = c.in_order-ordered.result.items;
  in_order = c.in_order-ordered.ensures.value;
  told = rw c.as_slice.ensures.value at c.in-Ok-typed_shapes.ensures.ok;
}

pub returns-in-Ok-typed_shapes-clause-few : goal.returns-in-Ok-typed_shapes-clause-few
returns-in-Ok-typed_shapes-clause-few c =
    let size = rw c.as_slice.ensures.value at c.in-Ok-typed_shapes.ensures.size in
    let same = length_permutation c.args.maps.now c.in_order-ordered.result.items c.in_order-ordered.ensures.value.same in
    omega (arith, size, same)

pub returns-clause-err : goal.returns-clause-err
returns-clause-err c = inr (inr (record {
  types = c.in-Ok.types;
  read = subst (λ bytes. IsRead bytes c.in-Ok.types) c.types_in.ensures c.in-Ok.ensures.ok;
  ordered = c.in_order-ordered.result.items;
  in_order = c.in_order-ordered.ensures.value;
  told = rw c.as_slice.ensures.value at c.in-Err-typed_shapes.ensures.err;
}))
