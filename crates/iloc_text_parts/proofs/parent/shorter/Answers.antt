use Rattle.std.proofs.Common.{◌≡◌, true, false, codes, refl, subst, sym, ◌∙◌}
use Rattle.std.specs.Option.{option_copied}
use Rattle.std.specs.Str.{bytes_eq}
use Rattle.iloc_text_parts.specs.Parts.{IsParentText}
use Rattle.iloc_text_parts.proofs.CutLemmas.{first_is}
use Rattle.iloc_text_parts.proofs.ParentLemmas.{is_nothing, is_something, language_is, shorter_is, und_is}
use Rattle.iloc_text_parts.proofs.parent.shorter.Goals as goal

pub returns-then-is_empty : goal.returns-then-is_empty
returns-then-is_empty c = λ M w e none.
    let n = c.args.normal.now in
    let l = c.split.result.0.now in
    let words = c.split.result.1.now in
    let left = c.split.ensures.rest in
    let nothing = is_nothing c.is_empty.result words c.is_empty.ensures c.if-is_empty.true in
    let is = c.split.ensures.piece ∙ first_is M w n e in
    (elim (bytes_eq l (codes "und"))
    as (λ b. bytes_eq l (codes "und") ≡ b → IsParentText M (option_copied c.parent_of_language.result)) [
      | true ↦ λ h. subst (IsParentText M) (sym (c.parent_of_language.ensures.und h))
          (und_is M w n e none words left nothing l is h)
      | false ↦ λ h. subst (IsParentText M) (sym (c.parent_of_language.ensures.other h))
          (language_is M w n e none words left nothing l is h)
    ]) refl

pub returns : goal.returns
returns c = λ M w e none.
    shorter_is M w c.args.normal.now e none c.split.result.1.now c.split.ensures.tail c.split.ensures.rest
    (is_something c.is_empty.result c.split.result.1.now c.is_empty.ensures c.if-is_empty.false)
    c.last_tail-last.result.now c.last_tail-last.ensures.last c.split_at.result.0.now c.split_at.ensures.front
