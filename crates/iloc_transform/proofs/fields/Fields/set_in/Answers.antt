use Rattle.std.proofs.Common.{◌∙◌, ap, is_some, refl, sym, true≢false}
use Rattle.std.specs.FinMap.{find}
use Rattle.iloc_spec_grammar.specs.Syntax.{word_cmp}
use Rattle.iloc_transform.proofs.MapLemmas.{put_pairs}
use Rattle.iloc_transform.proofs.fields.Fields.set_in.Goals as goal

pub invariant_of-self : goal.invariant_of-self
invariant_of-self g c = rw c.replace.ensures.after (put_pairs c.args.key c.args.value
    c.as_str.ensures.normal c.as_slice.ensures.normal c.self.inside.map c.self.invariant)

pub returns-in_err-insert-clause-known : goal.returns-in_err-insert-clause-known
returns-in_err-insert-clause-known g c h =
    absurd (true≢false (sym h ∙ sym (ap (λ es. is_some (find word_cmp c.args.key es)) c.self.view_is)
    ∙ ap is_some (sym c.in_default.ensures.value)))

pub returns-clause-known : goal.returns-clause-known
returns-clause-known g c h = refl
