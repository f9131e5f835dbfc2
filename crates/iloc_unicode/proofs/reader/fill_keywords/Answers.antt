use Rattle.std.proofs.Common.{◌≡◌, true, true≢false, false, sym, ◌∙◌, is_some}
use Rattle.std.proofs.lemmas.Bool.{false_from_ne_true}
use Rattle.std.proofs.lemmas.Result.{err_from_is_err_and}
use Rattle.std.specs.FinMap.{find}
use Rattle.iloc_memory.proofs.Within.{within_more}
use Rattle.iloc_spec_grammar.specs.Syntax.{word_cmp}
use Rattle.iloc_subtags.specs.Left.{left}
use Rattle.iloc_unicode.proofs.KeywordLemmas.{two_bytes, filled_less, filled_more, filled_all, filled_bad, many_values, many_keys, values_room, pair_room}
use Rattle.iloc_unicode.proofs.reader.fill_keywords.Goals as goal

refused_not : false ≡ true → ⊥
refused_not h = true≢false (sym h)

pub returns-in_err-value-clause-reads : goal.returns-in_err-value-clause-reads
returns-in_err-value-clause-reads g c =
    let p = err_from_is_err_and c.from_residual.result c.from_residual.ensures.1 in
    rw (p.1, p.2) (many_values (left c.args.iter.now) (left c.keys.iter) c.keys.keywords c.keys.invariant
    c.in-Some.key (left c.take_word.new.iter) c.in-Some.ensures.word c.in-Some.ensures.rest
    (λ few. refused_not (c.in_err-value.ensures.succeeds few)))

pub returns-in_err-value-clause-out_of_memory : goal.returns-in_err-value-clause-out_of_memory
returns-in_err-value-clause-out_of_memory g c =
    let p = err_from_is_err_and c.from_residual.result c.from_residual.ensures.1 in
    let room = values_room (left c.args.iter.now) (left c.keys.iter) c.keys.keywords c.keys.invariant
    c.in-Some.key (left c.take_word.new.iter) c.in-Some.ensures.word c.in-Some.ensures.rest in
    rw (p.1, p.2) (within_more g.M.Memory.refused _ _ room c.in_err-value.ensures.out_of_memory)

pub keys-smaller : goal.keys-smaller
keys-smaller g c = filled_less (left c.args.iter.now) (left c.keys.iter) c.keys.keywords c.keys.invariant
    c.in-Some.key (left c.take_word.new.iter) c.in-Some.ensures.word c.in-Some.ensures.rest
    (left c.read_value_in.new.iter) c.in_ok-value.ensures.rest

pub keys-preserved : goal.keys-preserved
keys-preserved g c = filled_more (left c.args.iter.now) (left c.keys.iter) c.keys.keywords c.keys.invariant
    c.in-Some.key (left c.take_word.new.iter) c.in-Some.ensures.word c.in-Some.ensures.rest
    c.in_ok-value.value (left c.read_value_in.new.iter) c.add.new.self c.in_ok-value.ensures.value
    c.in_ok-value.ensures.rest c.in_ok-add.ensures.ok

pub returns-in_err-add-clause-reads : goal.returns-in_err-add-clause-reads
returns-in_err-add-clause-reads g c =
    let p = err_from_is_err_and c.from_residual-in_err-add.result c.from_residual-in_err-add.ensures.1 in
    let new : is_some (find word_cmp c.in-Some.key c.keys.keywords) ≡ false =
    false_from_ne_true _ (λ t. refused_not (c.in_err-add.ensures.known t)) in
    rw (p.1, p.2) (many_keys (left c.args.iter.now) (left c.keys.iter) c.keys.keywords c.keys.invariant
    c.in-Some.key (left c.take_word.new.iter) c.in-Some.ensures.word c.in-Some.ensures.rest new
    (λ few. refused_not (c.in_err-add.ensures.succeeds few)))

pub returns-in_err-add-clause-out_of_memory : goal.returns-in_err-add-clause-out_of_memory
returns-in_err-add-clause-out_of_memory g c =
    let p = err_from_is_err_and c.from_residual-in_err-add.result c.from_residual-in_err-add.ensures.1 in
    let room = pair_room (left c.args.iter.now) (left c.keys.iter) c.keys.keywords c.keys.invariant
    c.in-Some.key (left c.take_word.new.iter) c.in-Some.ensures.word c.in-Some.ensures.rest in
    rw (p.1, p.2) (within_more g.M.Memory.refused _ _ room c.in_err-add.ensures.out_of_memory)

pub returns-then-next_has_length-clause-reads : goal.returns-then-next_has_length-clause-reads
returns-then-next_has_length-clause-reads g c = filled_bad (left c.args.iter.now) (left c.keys.iter)
    (left c.take_word.new.iter) c.keys.keywords c.keys.invariant c.in_default.ensures.rest
    (sym (c.next_has_length.ensures ∙ two_bytes _) ∙ c.if-next_has_length.true) c.in_default.ensures.word

pub returns-clause-reads : goal.returns-clause-reads
returns-clause-reads g c = filled_all (left c.args.iter.now) (left c.keys.iter)
    (left c.take_word.new.iter) c.keys.keywords c.keys.invariant c.in_default.ensures.rest
    (sym (c.next_has_length.ensures ∙ two_bytes _) ∙ c.if-next_has_length.false) c.in_default.ensures.word
