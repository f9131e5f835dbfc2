use Rattle.std.proofs.Common.{◌∙◌, length, sym}
use Rattle.iloc_memory.proofs.Within.{within_more}
use Rattle.std.proofs.lemmas.Result.{err_from_is_err_and}
use Rattle.iloc_langid.specs.Reads.{value_of}
use Rattle.iloc_langid.proofs.NormalizingLemmas.{is_normalized, meant_within, refuses_memory}
use Rattle.iloc_langid.proofs.identifier.LanguageIdentifier.normalize_parsed.Goals as goal

pub returns-in_err-to_string_or_borrow_in-clause-memory :
    goal.returns-in_err-to_string_or_borrow_in-clause-memory
returns-in_err-to_string_or_borrow_in-clause-memory g c =
    let p = err_from_is_err_and c.from_residual-in_err-to_string_or_borrow_in.result
    c.from_residual-in_err-to_string_or_borrow_in.ensures.1 in
    rw (p.1, p.2) (refuses_memory c.args.input.now (value_of c.in_ok-identifier.identifier)
    c.in_ok-identifier.ensures.reads c.in_err-to_string_or_borrow_in.ensures.succeeds)

pub returns-in_err-to_string_or_borrow_in-clause-out_of_memory :
    goal.returns-in_err-to_string_or_borrow_in-clause-out_of_memory
returns-in_err-to_string_or_borrow_in-clause-out_of_memory g c =
    let p = err_from_is_err_and c.from_residual-in_err-to_string_or_borrow_in.result
    c.from_residual-in_err-to_string_or_borrow_in.ensures.1 in
    rw (p.1, p.2) (within_more g.M.Memory.refused _ (length c.args.input.now)
    (meant_within c.args.input.now (value_of c.in_ok-identifier.identifier) c.in_ok-identifier.ensures.reads)
    c.in_err-to_string_or_borrow_in.ensures.out_of_memory)

pub returns-clause-ok : goal.returns-clause-ok
returns-clause-ok g c = (
  is_normalized c.args.input.now (value_of c.in_ok-identifier.identifier) _ c.in_ok-identifier.ensures.reads
      c.in_ok-to_string_or_borrow_in.ensures.text,
  let text = c.in_ok-to_string_or_borrow_in.ensures.text in
      let lent = c.in_ok-to_string_or_borrow_in.ensures.borrowed in
      (λ l. lent.0 l ∙ sym text, λ e. lent.1 (e ∙ text)),
)
