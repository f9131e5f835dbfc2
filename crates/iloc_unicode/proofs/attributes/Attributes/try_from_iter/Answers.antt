use Rattle.std.proofs.Common.{◌≡◌, ◌≤◌, ◌∙◌, length, subst, IfOk, OnOk, IsOk}
use Rattle.iloc_memory.proofs.Within.{refused_more}
use Rattle.iloc_subtags.specs.Left.{left}
use Rattle.iloc_unicode.proofs.AttributeLemmas.{few_none, few_new, few_more, few_done, few_room}
use Rattle.iloc_unicode.proofs.attributes.Attributes.try_from_iter.Goals as goal

pub few-init : goal.few-init
few-init g c = rw c.new-attributes.ensures (few_none (left c.args.iter.now))

pub few-preserved : goal.few-preserved
few-preserved g c =
    few_new (left c.args.iter.now) (left c.few.iter) c.few.attributes c.few.invariant c.in-Some.word
    (left c.take_word.new.iter) c.in-Some.ensures.word c.in-Some.ensures.rest c.push_in.new.self
    c.in_ok-push_in.ensures.ok (λ e. c.if-len-eq4.false (c.len.ensures ∙ e))

pub returns-then-len-eq4-clause-value : goal.returns-then-len-eq4-clause-value
returns-then-len-eq4-clause-value g c =
    let all = few_more (left c.args.iter.now) (left c.few.iter) c.few.attributes c.few.invariant
    c.in-Some.word (left c.take_word.new.iter) c.in-Some.ensures.word c.in-Some.ensures.rest
    c.push_in.new.self c.in_ok-push_in.ensures.ok in
    subst (λ b. IfOk c.read_more_attributes.result (λ a. a ≡ b)) all.0 c.read_more_attributes.ensures.value

pub returns-then-len-eq4-clause-rest : goal.returns-then-len-eq4-clause-rest
returns-then-len-eq4-clause-rest g c =
    let all = few_more (left c.args.iter.now) (left c.few.iter) c.few.attributes c.few.invariant
    c.in-Some.word (left c.take_word.new.iter) c.in-Some.ensures.word c.in-Some.ensures.rest
    c.push_in.new.self c.in_ok-push_in.ensures.ok in
    subst (λ b. OnOk c.read_more_attributes.result (left c.read_more_attributes.new.iter ≡ b)) all.1
    c.read_more_attributes.ensures.rest

pub returns-then-len-eq4-clause-succeeds : goal.returns-then-len-eq4-clause-succeeds
returns-then-len-eq4-clause-succeeds g c =
    let all = few_more (left c.args.iter.now) (left c.few.iter) c.few.attributes c.few.invariant
    c.in-Some.word (left c.take_word.new.iter) c.in-Some.ensures.word c.in-Some.ensures.rest
    c.push_in.new.self c.in_ok-push_in.ensures.ok in
    subst (λ b. length b ≤ 4 → IsOk c.read_more_attributes.result) all.0
    c.read_more_attributes.ensures.succeeds

pub returns-then-len-eq4-clause-out_of_memory : goal.returns-then-len-eq4-clause-out_of_memory
returns-then-len-eq4-clause-out_of_memory g c =
    let room = few_room (left c.args.iter.now) (left c.few.iter) c.few.attributes c.few.invariant
    c.in-Some.word (left c.take_word.new.iter) c.in-Some.ensures.word c.in-Some.ensures.rest
    c.push_in.new.self c.in_ok-push_in.ensures.ok in
    refused_more g.M.Memory.refused _ _ room c.read_more_attributes.result
    c.read_more_attributes.ensures.out_of_memory

pub returns-clause-value : goal.returns-clause-value
returns-clause-value g c = c.from_set.ensures
    ∙ (few_done (left c.args.iter.now) (left c.few.iter) c.few.attributes c.few.invariant
    c.in_default.ensures.word).0
