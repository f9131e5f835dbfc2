use Rattle.std.proofs.Common.{◌≡◌, ap, ◌∙◌, arith}
use Rattle.std.specs.List.{insert}
use Rattle.iloc_extensions.specs.Place.{how_many_up_to}
use Rattle.iloc_extensions.proofs.PlaceLemmas.{place_fits, put_at_place}
use Rattle.iloc_word_list.proofs.CollectorLaws.{on_err}
use Rattle.iloc_extensions.proofs.others.insert_other.Goals as goal

pub insert_at-requires : goal.insert_at-requires
insert_at-requires g c = let f = place_fits c.get_ext_byte.result c.deref.result.now in
    let e = c.place_of-place.ensures in let l = c.deref.ensures.len in omega (arith, f, e, l)

pub returns-clause-ok : goal.returns-clause-ok
returns-clause-ok g c =
    let others = c.args.others.now.items in
    let at : c.place_of-place.result ≡ how_many_up_to c.args.other.0 others =
    c.place_of-place.ensures ∙ ap (λ e. how_many_up_to e c.deref.result.now) c.get_ext_byte.ensures.singleton
    ∙ ap (how_many_up_to c.args.other.0) c.deref.ensures.value in
    let put = ap (λ n. insert others n c.args.other) at
    ∙ put_at_place c.args.other.0 c.args.other.1 others c.requires in
    c.in_ok-insert_at.ensures.ok ∙ put

pub returns-in_err-insert_at-clause-out_of_memory : goal.returns-in_err-insert_at-clause-out_of_memory
returns-in_err-insert_at-clause-out_of_memory g c =
    on_err c.from_residual.result _ c.in_err-insert_at.ensures.out_of_memory
