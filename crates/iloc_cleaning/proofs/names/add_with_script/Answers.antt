use Rattle.std.proofs.Common.{◌++◌, vec_len, append_assoc, ap, ◌∙◌, rules}
use Rattle.iloc_cleaning.specs.Cleaning.{hyphens}
use Rattle.iloc_cleaning.proofs.Keeping.{err_further}
use Rattle.iloc_cleaning.proofs.names.add_with_script.Goals as goal

pub returns-clause-err : goal.returns-clause-err
returns-clause-err c =
    err_further _ _ (vec_len c.args.cleaned.now) c.args.cleaned.now.items
    (hyphens c.split_at.result.0.now ++ c.args.script) _ c.add_hyphens-2.new.cleaned.items
    c.add_hyphens-2.ensures.err
    (c.in_ok-extend_from_slice.ensures.items
    ∙ ap (λ t. t ++ c.args.script) c.in_ok-add_hyphens.ensures.ok
    ∙ append_assoc c.args.cleaned.now.items (hyphens c.split_at.result.0.now) c.args.script)
    (search rules)
