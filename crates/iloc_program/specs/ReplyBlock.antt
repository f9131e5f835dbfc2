-- The bytes of a block of replies.
use Rattle.std.specs.Prelude.{◌≡◌, ◌≤◌, ℕ, ◌+◌, ◌*◌, take, vec_len, Result, OnOk}
use Rattle.iloc_spec_grammar.specs.Syntax.{Text}
use Rattle.iloc_program.specs.declared.reply_block.ReplyBlock.{ReplyBlock}

-- the bytes that count
abbrev pub held : {M : Type 0} → ReplyBlock M → Text
held b = take b.len b.room.items

-- the same bytes count, and unless memory was refused there is room for so many more
abbrev pub MakesRoom : {M T E : Type 0} → ReplyBlock M → ReplyBlock M → ℕ → Result T E → Type 0
MakesRoom old new more result =
    (held new ≡ held old) × OnOk result (new.len + more ≤ vec_len new.room)

-- the most bytes that are asked for at once so that there is room for n: twice as many, and 131,072
-- more, which are made first
abbrev pub room_for : ℕ → ℕ
room_for n = 131072 + 2 * n

-- room for some number of items was refused
abbrev pub WasRefused : (ℕ → Type 0) → Type 0
WasRefused Refused = (n : ℕ) × Refused n
