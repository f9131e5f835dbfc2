-- Where the key is not there, all stay.
use Rattle.std.proofs.Common.{refl, sym, ap, ◌∙◌}
use Rattle.std.specs.Prelude.{is_some}
use Rattle.iloc_locale.specs.LocaleReading.{value_of}
use Rattle.iloc_handles.proofs.ItemLemmas.{copied_there}
use Rattle.iloc_handles.proofs.SubtagLemmas.{absent_key}
use Rattle.iloc_handles.proofs.pairs.RemovePairChange.apply.Goals as goal

pub returns-in_default : goal.returns-in_default
returns-in_default g c = (
  absent_key g.P.Kind.WordKind.kind c.args.self.now.1.now c.in-Ok.key
      (g.P.Pairs.map.pairs (value_of c.args.locale.now))
      c.in-Ok.ensures.1 (c.if-is_some.ensures ∙ sym (copied_there c.get.result) ∙ ap is_some c.get.ensures),
  refl,
)
