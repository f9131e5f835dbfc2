use Rattle.std.proofs.Common.{Ok, Result}
use Rattle.std.proofs.lemmas.Result.{err_from_is_err_and}
use Rattle.iloc_subtags.specs.declared.parse_error.ParseError.{ParseError}
use Rattle.iloc_langid.specs.declared.identifier.LanguageIdentifier.{LanguageIdentifier}
use Rattle.iloc_extensions.specs.declared.extensions.Extensions.{Extensions}
use Rattle.iloc_locale.specs.declared.locale.Locale.{Locale}
use Rattle.iloc_locale.proofs.ReadLemmas.{no_language_read, reads_apart, reads_memory, reads_well_formed, reads_steps, reads_accepts, reads_refuses, reads_narrow, plain_means}
use Rattle.iloc_locale.proofs.locale.Locale.try_from_utf8_in.Goals as goal

-- each way out reads the text as the grammar says; the other clauses follow from that

pub returns-in_err-fill_short-clause-reads : goal.returns-in_err-fill_short-clause-reads
returns-in_err-fill_short-clause-reads g c =
    let p = err_from_is_err_and c.from_residual.result c.from_residual.ensures.1 in
    rw (p.1, p.2) (no_language_read c.args.code_units.now _ c.in_err-fill_short.ensures.refused)

pub returns-in_err-fill_short-clause-accepted : goal.returns-in_err-fill_short-clause-accepted
returns-in_err-fill_short-clause-accepted g c =
    reads_accepts c.args.code_units.now c.from_residual.result (returns-in_err-fill_short-clause-reads g c)

pub returns-in_err-fill_short-clause-refused : goal.returns-in_err-fill_short-clause-refused
returns-in_err-fill_short-clause-refused g c =
    reads_refuses c.args.code_units.now c.from_residual.result (returns-in_err-fill_short-clause-reads g c)

pub returns-in_err-fill_short-clause-narrow : goal.returns-in_err-fill_short-clause-narrow
returns-in_err-fill_short-clause-narrow g c =
    reads_narrow c.args.code_units.now c.from_residual.result (returns-in_err-fill_short-clause-reads g c)

abbrev made : LanguageIdentifier → Extensions → Result Locale ParseError
made i e = Ok (record { id = i; extensions = e })

pub returns-then-branch-clause-reads : goal.returns-then-branch-clause-reads
returns-then-branch-clause-reads g c =
    plain_means c.args.code_units.now
    (record { id = c.fill_short.new.identifier; extensions = c.new_in.result })
    (c.in_ok-fill_short.ensures.answered c.if-branch.true) c.new_in.ensures

pub returns-then-branch-clause-accepted : goal.returns-then-branch-clause-accepted
returns-then-branch-clause-accepted g c = reads_accepts c.args.code_units.now
    (made c.fill_short.new.identifier c.new_in.result) (returns-then-branch-clause-reads g c)

pub returns-then-branch-clause-well_formed : goal.returns-then-branch-clause-well_formed
returns-then-branch-clause-well_formed g c = reads_well_formed c.args.code_units.now
    (made c.fill_short.new.identifier c.new_in.result) (returns-then-branch-clause-reads g c)

pub returns-then-branch-clause-refused : goal.returns-then-branch-clause-refused
returns-then-branch-clause-refused g c = reads_refuses c.args.code_units.now
    (made c.fill_short.new.identifier c.new_in.result) (returns-then-branch-clause-reads g c)

pub returns-then-branch-clause-steps : goal.returns-then-branch-clause-steps
returns-then-branch-clause-steps g c = reads_steps c.args.code_units.now
    (made c.fill_short.new.identifier c.new_in.result) (returns-then-branch-clause-reads g c)

pub returns-then-branch-clause-narrow : goal.returns-then-branch-clause-narrow
returns-then-branch-clause-narrow g c = reads_narrow c.args.code_units.now
    (made c.fill_short.new.identifier c.new_in.result) (returns-then-branch-clause-reads g c)

pub returns-clause-reads : goal.returns-clause-reads
returns-clause-reads g c = reads_apart c.args.code_units.now c.filled.result c.filled.ensures.reads

pub returns-clause-memory : goal.returns-clause-memory
returns-clause-memory g c = reads_memory c.args.code_units.now c.filled.result c.filled.ensures.reads

pub returns-clause-well_formed : goal.returns-clause-well_formed
returns-clause-well_formed g c =
    reads_well_formed c.args.code_units.now c.filled.result (returns-clause-reads g c)

pub returns-clause-steps : goal.returns-clause-steps
returns-clause-steps g c =
    reads_steps c.args.code_units.now c.filled.result (returns-clause-reads g c)

pub returns-clause-narrow : goal.returns-clause-narrow
returns-clause-narrow g c =
    reads_narrow c.args.code_units.now c.filled.result (returns-clause-reads g c)

pub returns-clause-accepted : goal.returns-clause-accepted
returns-clause-accepted g c =
    reads_accepts c.args.code_units.now c.filled.result (returns-clause-reads g c)

pub returns-clause-refused : goal.returns-clause-refused
returns-clause-refused g c =
    reads_refuses c.args.code_units.now c.filled.result (returns-clause-reads g c)
