-- What contracts see of a journal and of a receipt.
use Rattle.std.specs.Prelude.{ℕ, List}

-- a journal at the shut gate behind its last block
pub record JournalState : Type 0 where
  pub key : List ℕ
  -- how many blocks it has
  pub count : ℕ
  -- where that gate stands
  pub place : ℕ

-- a block that every image of the disk has
pub record ReceiptState : Type 0 where
  pub index : ℕ
  pub block : List ℕ
