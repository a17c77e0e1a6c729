-- Working words of private contracts: the runs that are one splice.
use Rattle.std.specs.Prelude.{◌≡◌, ℕ, ◌+◌, ◌≤◌, true, List, ◌∷◌, [], ◌++◌, length}
use Rattle.ep_units.specs.Text.{Text}
use Rattle.ep_attr.specs.AttrMap.{is_none}
use Rattle.ep_cs.specs.Doc.{Cell}
use Rattle.ep_cs.specs.Edit.{apply}
use Rattle.ep_cs.specs.Runs.{all_passed}
use Rattle.ep_block_parts.specs.Splices.{spliced}
use Rattle.ep_cs.specs.Change.{change_of}
use Rattle.ep_cs.specs.declared.op.Kind.{Kind}
use Rattle.ep_cs.specs.declared.op.Op.{Op}

-- runs of one kind, which give no map
abbrev pub AreBare : Kind → List Op → Type 0
AreBare k [] = Unit {0}
AreBare k (o ∷ os) = (o.kind ≡ k) × (is_none o.attrs ≡ true) × AreBare k os

-- runs begin with such runs, which pass so many units, and these are the others
pub record BeginWith (k : Kind) (ops : List Op) (units : ℕ) (rest : List Op) : Type 0 where
  pub first : List Op
  pub all : ops ≡ first ++ rest
  pub bare : AreBare k first
  pub passed : units ≡ all_passed first

-- what runs do is one splice of each document
pub record AreSplice (ops : List Op) (bank : Text) (at dropped : ℕ) (new : List Cell) : Type 0 where
  pub inside : at + dropped ≡ all_passed ops
  pub is : (doc : List Cell) → all_passed ops ≤ length doc → apply (change_of (length doc) ops bank).edit doc ≡ spliced at dropped new doc
