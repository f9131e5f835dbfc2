-- What a handle owns, and what a `&` to one lends.
use Rattle.std.specs.Prelude.{ℕ, zero, suc, [], ◌∷◌, Option, None, Some, ◌^◌}
use base.Fraction.{full_share}
use base.Share
use base.Fml.{Lft, Share, Fml, ftrue, ffalse, fsep, flt, flft}
use denote.RawPtr.{Ptr, block_ptr, null_ptr}
use denote.Sharing.{nothing, said, beside}
use denote.Struct.Lending.{lent_at}
use Rattle.std.specs.Box.Ownership.{box_owns}
use mir.Syntax.{Ty}
use Rattle.std.specs.contracts.impls.GlobalAllocator.TheImpl.{ghosts}
use Rattle.std.specs.Global.{Global}
use Rattle.iloc_locale.specs.declared.locale.Locale.{Locale}
use Rattle.iloc_locale.specs.contracts.locale.Locale.{the_row}

-- the heap, which is one value
abbrev pub heap : Global
heap = record { memory = record { seal = tt } }

-- the right to free a block of the heap
abbrev pub may_free : Ty → Ptr → Fml
may_free = ghosts.dealloc_token heap

-- null owns nothing, and any other pointer the box of the locale
abbrev pub owned : Ptr → Option Locale → Fml
owned null_ptr None = ftrue
owned null_ptr (Some l) = ffalse
owned (block_ptr b o) None = ffalse
owned (block_ptr b o) (Some l) = box_owns may_free the_row (block_ptr b o) l

-- what is lent for a lifetime: nothing at null, and at any other pointer the locale there, to be read;
-- and that the pointer can be compared with null
abbrev pub lent : Ptr → Option Locale → Lft → Fml
lent null_ptr None = nothing
lent null_ptr (Some l) = said ffalse
lent (block_ptr b o) None = said ffalse
lent (block_ptr b o) (Some l) = beside (said (flt o (2 ^ 63))) (lent_at the_row (block_ptr b o) l)

-- a lifetime's token can be cut for any number of readers: each takes half of what is left
abbrev pub left_after : ℕ → Share
left_after zero = full_share
left_after (suc n) = Share.right (left_after n)

abbrev pub share_of : ℕ → Share
share_of n = Share.left (left_after n)

-- a loan: a share of a lifetime's token, so that it lasts, and what is lent for that lifetime
abbrev pub loan_owns : ℕ → ℕ → Ptr → Option Locale → Fml
loan_owns life part p l = fsep (flft (life ∷ []) (share_of part)) (lent p l (life ∷ []))
