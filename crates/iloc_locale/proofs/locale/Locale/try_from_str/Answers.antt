use Rattle.std.proofs.Common.{Ok, Result, subst}
use Rattle.std.proofs.lemmas.Result.{err_from_is_err_and}
use Rattle.iloc_spec_grammar.specs.Syntax.{Text}
use Rattle.iloc_subtags.specs.Judging.{RunsOutOnlyIf}
use Rattle.iloc_subtags.specs.declared.parse_error.ParseError.{ParseError}
use Rattle.iloc_langid.specs.declared.identifier.LanguageIdentifier.{LanguageIdentifier}
use Rattle.iloc_extensions.specs.declared.extensions.Extensions.{Extensions}
use Rattle.iloc_locale.specs.LocaleReading.{LocaleTextReads, LocaleWantsMemory}
use Rattle.iloc_locale.specs.declared.locale.Locale.{Locale}
use Rattle.iloc_locale.proofs.ReadLemmas.{no_language_read, reads_apart, reads_memory, reads_well_formed, reads_steps, reads_accepts, reads_refuses, reads_narrow, plain_means}
use Rattle.iloc_locale.proofs.locale.Locale.try_from_str.Goals as goal

-- each way out reads the text's bytes as the grammar says; the other clauses follow from that

pub returns-in_err-fill_short-clause-reads : goal.returns-in_err-fill_short-clause-reads
returns-in_err-fill_short-clause-reads c =
    let p = err_from_is_err_and c.from_residual.result c.from_residual.ensures.1 in
    subst (λ (t : Text). LocaleTextReads t c.from_residual.result) c.as_bytes-bytes.ensures.value
    (rw (p.1, p.2)
    (no_language_read c.as_bytes-bytes.result.now _ c.in_err-fill_short.ensures.refused))

pub returns-in_err-fill_short-clause-accepted : goal.returns-in_err-fill_short-clause-accepted
returns-in_err-fill_short-clause-accepted c =
    reads_accepts c.args.s.now c.from_residual.result (returns-in_err-fill_short-clause-reads c)

pub returns-in_err-fill_short-clause-refused : goal.returns-in_err-fill_short-clause-refused
returns-in_err-fill_short-clause-refused c =
    reads_refuses c.args.s.now c.from_residual.result (returns-in_err-fill_short-clause-reads c)

pub returns-in_err-fill_short-clause-narrow : goal.returns-in_err-fill_short-clause-narrow
returns-in_err-fill_short-clause-narrow c =
    reads_narrow c.args.s.now c.from_residual.result (returns-in_err-fill_short-clause-reads c)

abbrev made : LanguageIdentifier → Extensions → Result Locale ParseError
made i e = Ok (record { id = i; extensions = e })

pub returns-then-branch-clause-reads : goal.returns-then-branch-clause-reads
returns-then-branch-clause-reads c =
    subst (λ (t : Text). LocaleTextReads t (made c.fill_short.new.identifier c.new_in.result))
    c.as_bytes-bytes.ensures.value
    (plain_means c.as_bytes-bytes.result.now
    (record { id = c.fill_short.new.identifier; extensions = c.new_in.result })
    (c.in_ok-fill_short.ensures.answered c.if-branch.true) c.new_in.ensures)

pub returns-then-branch-clause-accepted : goal.returns-then-branch-clause-accepted
returns-then-branch-clause-accepted c = reads_accepts c.args.s.now
    (made c.fill_short.new.identifier c.new_in.result) (returns-then-branch-clause-reads c)

pub returns-then-branch-clause-well_formed : goal.returns-then-branch-clause-well_formed
returns-then-branch-clause-well_formed c = reads_well_formed c.args.s.now
    (made c.fill_short.new.identifier c.new_in.result) (returns-then-branch-clause-reads c)

pub returns-then-branch-clause-refused : goal.returns-then-branch-clause-refused
returns-then-branch-clause-refused c = reads_refuses c.args.s.now
    (made c.fill_short.new.identifier c.new_in.result) (returns-then-branch-clause-reads c)

pub returns-then-branch-clause-steps : goal.returns-then-branch-clause-steps
returns-then-branch-clause-steps c = reads_steps c.args.s.now
    (made c.fill_short.new.identifier c.new_in.result) (returns-then-branch-clause-reads c)

pub returns-then-branch-clause-narrow : goal.returns-then-branch-clause-narrow
returns-then-branch-clause-narrow c = reads_narrow c.args.s.now
    (made c.fill_short.new.identifier c.new_in.result) (returns-then-branch-clause-reads c)

pub returns-clause-reads : goal.returns-clause-reads
returns-clause-reads c = subst (λ (t : Text). LocaleTextReads t c.filled.result)
    c.as_bytes-bytes.ensures.value
    (reads_apart c.as_bytes-bytes.result.now c.filled.result c.filled.ensures.reads)

pub returns-clause-memory : goal.returns-clause-memory
returns-clause-memory c = subst (λ (t : Text). RunsOutOnlyIf (LocaleWantsMemory t) c.filled.result)
    c.as_bytes-bytes.ensures.value
    (reads_memory c.as_bytes-bytes.result.now c.filled.result c.filled.ensures.reads)

pub returns-clause-well_formed : goal.returns-clause-well_formed
returns-clause-well_formed c =
    reads_well_formed c.args.s.now c.filled.result (returns-clause-reads c)

pub returns-clause-steps : goal.returns-clause-steps
returns-clause-steps c = reads_steps c.args.s.now c.filled.result (returns-clause-reads c)

pub returns-clause-narrow : goal.returns-clause-narrow
returns-clause-narrow c = reads_narrow c.args.s.now c.filled.result (returns-clause-reads c)

pub returns-clause-accepted : goal.returns-clause-accepted
returns-clause-accepted c = reads_accepts c.args.s.now c.filled.result (returns-clause-reads c)

pub returns-clause-refused : goal.returns-clause-refused
returns-clause-refused c = reads_refuses c.args.s.now c.filled.result (returns-clause-reads c)
