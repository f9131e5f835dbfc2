-- What a test in turn keeps are the extensions of other singletons.
use Rattle.std.proofs.Common.{rules, ◌==◌, not, sym, ap, ◌∙◌}
use Rattle.std.specs.Prelude.{is_some}
use Rattle.std.specs.List.{filter}
use Rattle.std.proofs.lemmas.Fn.{filter_same}
use Rattle.iloc_locale.specs.LocaleReading.{value_of}
use Rattle.iloc_handles.specs.Others.{with_others}
use Rattle.iloc_handles.proofs.ItemLemmas.{copied_there}
use Rattle.iloc_handles.proofs.others.RemoveOtherChange.apply.Goals as goal

pub returns : goal.returns
returns c =
    let l = c.args.locale.now in
    let s = c.to_ascii_lowercase-ext in
    let kept =
    filter_same _ (λ o. not (o.0 == s.result)) _ (λ x b f call. search rules) l.extensions.other.items
    c.retain.new.self.items c.retain.ensures.filtered in (
      ap is_some (sym c.other_of.ensures) ∙ copied_there c.other_of.result ∙ c.if-is_none.ensures,
      ap (λ os. with_others os (value_of l)) (kept
          ∙ ap (λ d. filter (λ o. not (o.0 == d)) l.extensions.other.items) s.ensures.value),
    )
