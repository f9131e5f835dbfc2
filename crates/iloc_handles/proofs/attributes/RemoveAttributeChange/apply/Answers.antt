-- A binary search finds the attribute exactly if it is there.
use Rattle.std.proofs.Common.{refl, sym, ap, subst, remove}
use Rattle.iloc_spec_grammar.specs.Syntax.{Attribute, word_cmp}
use Rattle.iloc_spec_grammar.specs.Values.{StrictlyAscends}
use Rattle.iloc_word_list.proofs.SetLaws.{search_new}
use Rattle.iloc_locale.specs.LocaleReading.{value_of}
use Rattle.iloc_handles.specs.Attributes.{with_attributes}
use Rattle.iloc_handles.proofs.SubtagLemmas.{absent_word, removed_ascends, removed_word}
use Rattle.iloc_handles.proofs.attributes.RemoveAttributeChange.apply.Goals as goal

pub returns-in-Err : goal.returns-in-Err
returns-in-Err c =
    let ws = c.args.locale.now.extensions.unicode.attributes in
    let slice = c.as_slice-attributes in
    let new = search_new slice.result.now ws c.in-Ok.attribute c.in-Err.field-0 slice.ensures.words
    slice.ensures.ascending c.in-Err.ensures.bound c.in-Err.ensures.position in
    (absent_word Attribute c.args.self.now.0.now c.in-Ok.attribute ws c.in-Ok.ensures.1 new.absent, refl)

pub without-requires-clause-ascends : goal.without-requires-clause-ascends
without-requires-clause-ascends c =
    let slice = c.as_slice-attributes in
    removed_ascends c.in-Ok.attribute slice.result.now c.in-Ok-binary_search.at
    (subst (StrictlyAscends word_cmp) (sym slice.ensures.words) slice.ensures.ascending)
    c.in-Ok-binary_search.ensures.bound
    c.in-Ok-binary_search.ensures.ok

pub returns-in-Ok-without : goal.returns-in-Ok-without
returns-in-Ok-without c =
    let l = c.args.locale.now in
    let slice = c.as_slice-attributes in
    let found = c.in-Ok-binary_search in
    let left = removed_word Attribute c.args.self.now.0.now c.in-Ok.attribute slice.result.now
    l.extensions.unicode.attributes c.in-Ok-without.kept found.at c.in-Ok.ensures.1 slice.ensures.words
    slice.ensures.ascending found.ensures.bound found.ensures.ok c.in-Ok-without.ensures in
    ((c.in-Ok.ensures.0, left.0), ap (λ ws. with_attributes ws (value_of l)) left.1)

pub returns-in-Err-without : goal.returns-in-Err-without
returns-in-Err-without c =
    let slice = c.as_slice-attributes in
    let found = c.in-Ok-binary_search in
    let left = removed_word Attribute c.args.self.now.0.now c.in-Ok.attribute slice.result.now
    c.args.locale.now.extensions.unicode.attributes (remove slice.result.now found.at) found.at
    c.in-Ok.ensures.1
    slice.ensures.words slice.ensures.ascending found.ensures.bound found.ensures.ok refl in
    ((c.in-Ok.ensures.0, left.0), refl)
