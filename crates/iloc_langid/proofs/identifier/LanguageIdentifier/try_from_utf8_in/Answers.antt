-- each way out reads the text as the grammar says; the other clauses follow from that
use Rattle.std.proofs.Common.{[], Ok, rules}
use Rattle.std.proofs.lemmas.Result.{err_from_is_err_and}
use Rattle.iloc_spec_grammar.specs.Syntax.{pieces}
use Rattle.iloc_langid.specs.PlainReads.{IsPlainFront}
use Rattle.iloc_langid.proofs.PlainLemmas.{no_language_read, plain_means}
use Rattle.iloc_langid.proofs.ReadLemmas.{reads_accepts, reads_refuses, reads_steps, reads_narrow}
use Rattle.iloc_langid.proofs.identifier.LanguageIdentifier.try_from_utf8_in.Goals as goal

pub returns-in_err-plain-clause-reads : goal.returns-in_err-plain-clause-reads
returns-in_err-plain-clause-reads g c =
    let p = err_from_is_err_and c.from_residual.result c.from_residual.ensures.1 in
    rw (p.1, p.2) (no_language_read c.args.code_units.now _ c.in_err-plain.ensures.refused)

pub returns-in_err-plain-clause-accepted : goal.returns-in_err-plain-clause-accepted
returns-in_err-plain-clause-accepted g c = reads_accepts (pieces c.args.code_units.now)
    c.from_residual.result (returns-in_err-plain-clause-reads g c)

pub returns-in_err-plain-clause-refused : goal.returns-in_err-plain-clause-refused
returns-in_err-plain-clause-refused g c = reads_refuses (pieces c.args.code_units.now)
    c.from_residual.result (returns-in_err-plain-clause-reads g c)

pub returns-in_err-plain-clause-narrow : goal.returns-in_err-plain-clause-narrow
returns-in_err-plain-clause-narrow g c =
    reads_narrow c.args.code_units.now c.from_residual.result (returns-in_err-plain-clause-reads g c)

pub returns-in-Some-clause-reads : goal.returns-in-Some-clause-reads
returns-in-Some-clause-reads g c =
    let f : IsPlainFront (pieces c.args.code_units.now) [] c.in-Some.plain = search rules in
    plain_means (pieces c.args.code_units.now) _ f c.new.ensures

pub returns-in-Some-clause-accepted : goal.returns-in-Some-clause-accepted
returns-in-Some-clause-accepted g c =
    reads_accepts (pieces c.args.code_units.now) (Ok _) (returns-in-Some-clause-reads g c)

pub returns-in-Some-clause-refused : goal.returns-in-Some-clause-refused
returns-in-Some-clause-refused g c =
    reads_refuses (pieces c.args.code_units.now) (Ok _) (returns-in-Some-clause-reads g c)

pub returns-in-Some-clause-steps : goal.returns-in-Some-clause-steps
returns-in-Some-clause-steps g c =
    reads_steps c.args.code_units.now (Ok _) (returns-in-Some-clause-reads g c)

pub returns-in-Some-clause-narrow : goal.returns-in-Some-clause-narrow
returns-in-Some-clause-narrow g c =
    reads_narrow c.args.code_units.now (Ok _) (returns-in-Some-clause-reads g c)

pub returns-in_err-fill_text-clause-reads : goal.returns-in_err-fill_text-clause-reads
returns-in_err-fill_text-clause-reads g c = search rules

pub returns-in_err-fill_text-clause-narrow : goal.returns-in_err-fill_text-clause-narrow
returns-in_err-fill_text-clause-narrow g c = reads_narrow c.args.code_units.now
    c.from_residual-in_err-fill_text.result (returns-in_err-fill_text-clause-reads g c)

pub returns-clause-reads : goal.returns-clause-reads
returns-clause-reads g c = search rules

pub returns-clause-accepted : goal.returns-clause-accepted
returns-clause-accepted g c =
    reads_accepts (pieces c.args.code_units.now) (Ok _) (returns-clause-reads g c)

pub returns-clause-steps : goal.returns-clause-steps
returns-clause-steps g c =
    reads_steps c.args.code_units.now (Ok _) (returns-clause-reads g c)

pub returns-clause-narrow : goal.returns-clause-narrow
returns-clause-narrow g c =
    reads_narrow c.args.code_units.now (Ok _) (returns-clause-reads g c)
