-- An extension is put over that of its singleton, or before the first that is greater.
use Rattle.std.proofs.Common.{◌≡◌, ◌≢◌, ◌<◌, length, slice_get, slice_set, slice_index_or, Some, refl, sym, ap, ◌∙◌, arith}
use Rattle.std.specs.List.{insert}
use Rattle.std.proofs.lemmas.Option.{get_or_from_slice_get, slice_get_read, slice_get_within}
use Rattle.iloc_spec_grammar.specs.Syntax.{Block}
use Rattle.iloc_handles.specs.OtherPlaces.{how_many_less}
use Rattle.iloc_handles.proofs.OtherLemmas.{place_fits, put_new, put_there}
use Rattle.iloc_handles.proofs.others.put_other.Goals as goal
use Rattle.iloc_handles.proofs.others.put_other.Goals.{else-place-len-via-then-place-len+else-get_ext_byte, else-place-len-via-else-place-len}

pub insert-requires : goal.insert-requires
insert-requires c =
    let f = place_fits c.get_ext_byte.result c.deref.result.now in
    let e = c.place_to_put-place.ensures in
    let l = c.deref.ensures.len in
    omega (arith, f, e, l)

pub returns-then-get_ext_byte-clause-ok : goal.returns-then-get_ext_byte-clause-ok
returns-then-get_ext_byte-clause-ok c =
    let os = c.args.others.now.items in
    let n = c.place_to_put-place.result in
    let at : n ≡ how_many_less c.args.other.0 os =
    c.place_to_put-place.ensures
    ∙ (λ i. how_many_less (c.get_ext_byte.ensures.singleton i) (c.deref.ensures.value i)) in
    let x = c.index.result.now in
    let tied : x.0 ≡ c.args.other.0 =
    sym c.get_ext_byte-then-place-len.ensures.singleton ∙ c.if-get_ext_byte.true
    ∙ c.get_ext_byte-then-place-len-2.ensures.singleton in
    let within : n < length os =
    let a = c.if-place-len.true in let b = c.len.ensures in let l = c.deref.ensures.len in
    let v = ap length c.deref.ensures.value in omega (arith, a, b, l, v) in
    let there = slice_get_read os (length os) n x refl within c.index.ensures in
    ap (λ m. slice_set os m c.args.other) at
    ∙ put_there c.args.other.0 c.args.other.1 os x (ap (slice_get os) (sym at) ∙ there) tied

pub returns-clause-ok : goal.returns-clause-ok
returns-clause-ok c =
    let os = c.args.others.now.items in
    let s = c.args.other.0 in
    let n = c.place_to_put-place.result in
    let at : n ≡ how_many_less s os =
    c.place_to_put-place.ensures
    ∙ (λ i. how_many_less (c.get_ext_byte.ensures.singleton i) (c.deref.ensures.value i)) in
    let new : (o : Block) → slice_get os (how_many_less s os) ≡ Some o → o.0 ≢ s =
    elim c.else-place-len.branch [
      | else-place-len-via-then-place-len+else-get_ext_byte w ↦ λ o e tied.
          let x = w.index.result.now in
          let is : x ≡ o = w.index.ensures ∙ ap (λ m. slice_index_or os m x) at
          ∙ get_or_from_slice_get os (how_many_less s os) o x e in
          w.if-get_ext_byte.false (w.get_ext_byte-then-place-len.ensures.singleton ∙ ap (λ y. y.0) is ∙ tied
          ∙ sym w.get_ext_byte-then-place-len-2.ensures.singleton)
      | else-place-len-via-else-place-len w ↦ λ o e tied.
          let a = w.if-place-len.false in let b = c.len.ensures in let l = c.deref.ensures.len in
          let v = ap length c.deref.ensures.value in let h = slice_get_within os (how_many_less s os) o e in
          absurd (omega (arith, a, b, l, v, h, at))
    ] in
    c.in_ok-insert.ensures.items ∙ ap (λ m. insert os m c.args.other) at ∙ put_new s c.args.other.1 os new
