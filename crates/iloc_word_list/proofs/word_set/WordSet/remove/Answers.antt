use Rattle.std.proofs.Common.{ap, sym, ◌∙◌}
use Rattle.std.specs.Prelude.{not, remove}
use Rattle.iloc_spec_grammar.specs.Syntax.{is_same}
use Rattle.iloc_word_list.proofs.SetLaws.{search_new, search_old, search_removed, kept_all, ascending-filter}
use Rattle.iloc_word_list.proofs.word_set.WordSet.remove.Goals as goal

pub invariant_of-self : goal.invariant_of-self
invariant_of-self g c =
    let left = c.remove.ensures.rest ∙ ap (λ ws. remove ws c.in-Ok.at) c.self.view_is
    ∙ search_removed _ _ c.args.word.now c.in-Ok.at c.as_slice.ensures.value c.as_slice.ensures.ascending
    c.in-Ok.ensures.bound c.in-Ok.ensures.ok in
    rw left
    (ascending-filter (λ w. not (is_same c.args.word.now w)) c.args.self.now c.as_slice.ensures.ascending)

pub returns-in-Ok-clause-removed : goal.returns-in-Ok-clause-removed
returns-in-Ok-clause-removed g c = sym (search_old _ _ c.args.word.now c.in-Ok.at c.as_slice.ensures.value
    c.as_slice.ensures.ascending c.in-Ok.ensures.bound c.in-Ok.ensures.ok).present

pub returns-in-Ok-clause-left : goal.returns-in-Ok-clause-left
returns-in-Ok-clause-left g c =
    c.remove.ensures.rest ∙ ap (λ ws. remove ws c.in-Ok.at) c.self.view_is
    ∙ search_removed _ _ c.args.word.now c.in-Ok.at c.as_slice.ensures.value c.as_slice.ensures.ascending
    c.in-Ok.ensures.bound c.in-Ok.ensures.ok

pub returns-in-Err-clause-removed : goal.returns-in-Err-clause-removed
returns-in-Err-clause-removed g c =
    sym (search_new _ _ c.args.word.now c.in-Err.field-0 c.as_slice.ensures.value c.as_slice.ensures.ascending
    c.in-Err.ensures.bound c.in-Err.ensures.position).absent

pub returns-in-Err-clause-left : goal.returns-in-Err-clause-left
returns-in-Err-clause-left g c =
    sym (kept_all c.args.word.now c.args.self.now
    (search_new _ _ c.args.word.now c.in-Err.field-0 c.as_slice.ensures.value c.as_slice.ensures.ascending
    c.in-Err.ensures.bound c.in-Err.ensures.position).absent)
