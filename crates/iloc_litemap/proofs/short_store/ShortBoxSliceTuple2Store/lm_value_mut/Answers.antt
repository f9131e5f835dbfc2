use Rattle.std.proofs.Common.{refl, ap, ◌∙◌}
use Rattle.std.proofs.lemmas.List.{get_or_default}
use Rattle.iloc_litemap.proofs.Edits.{set_pair_is}
use Rattle.iloc_litemap.proofs.short_store.ShortBoxSliceTuple2Store.lm_value_mut.Goals as goal

-- the pair that was lent is the one at the place
pub returns : goal.returns
returns g c =
    let read = c.item_mut-pair.ensures.value in (
      (refl, λ w. set_pair_is c.args.self.now c.args.index c.item_mut-pair.result.now w c.requires read),
      record {
        writes_back = tt;
        value = λ d. ap (λ e. e.1)
            (read ∙ get_or_default c.args.self.now c.args.index c.item_mut-pair.result.now d c.requires);
      },
    )
