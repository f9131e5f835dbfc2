use Rattle.std.proofs.Common.{subst, Ok, Err}
use Rattle.std.proofs.lemmas.Result.{err_from_is_err_and}
use Rattle.iloc_subtags.specs.Left.{left}
use Rattle.iloc_subtags.specs.declared.parse_error.ParseError.TheVariants.{InvalidSubtag}
use Rattle.iloc_langid.specs.SmallReads.{SmallReads}
use Rattle.iloc_langid.proofs.FrontLemmas.{peeked_none, peeked_some}
use Rattle.iloc_langid.proofs.SmallLemmas.{parts_whole, parts_more, parts_refused}
use Rattle.iloc_langid.proofs.small.read_small_whole.Goals as goal

pub returns-in_err-parts : goal.returns-in_err-parts
returns-in_err-parts c =
    let p = err_from_is_err_and c.from_residual.result c.from_residual.ensures.1 in
    rw (p.1, p.2) (subst (λ ps. SmallReads ps (Err c.in_err-parts.field-0.0)) c.new-iter.ensures
    (parts_refused (left c.new-iter.result) (left c.read_small_front.new.iter) c.in_err-parts.field-0.0
    c.in_err-parts.ensures))

pub returns-in-Some : goal.returns-in-Some
returns-in-Some c =
    subst (λ ps. SmallReads ps (Err InvalidSubtag)) c.new-iter.ensures
    (parts_more (left c.new-iter.result) (left c.read_small_front.new.iter) c.in_ok-parts.parts
    c.in_ok-parts.ensures (peeked_some _ c.in-Some.field-0.now c.in-Some.ensures))

pub returns-in-None : goal.returns-in-None
returns-in-None c =
    subst (λ ps. SmallReads ps (Ok c.in_ok-parts.parts)) c.new-iter.ensures
    (parts_whole (left c.new-iter.result) (left c.read_small_front.new.iter) c.in_ok-parts.parts
    c.in_ok-parts.ensures (peeked_none _ c.in-None.ensures))
