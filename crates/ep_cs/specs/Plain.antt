-- Texts as documents without attributes.
use Rattle.std.specs.Prelude.{ℕ, map}
use Rattle.ep_units.specs.Text.{Text}
use Rattle.ep_attr.specs.AttrMap.{none}
use Rattle.ep_cs.specs.Doc.{Cell, Doc}

abbrev pub plain_cell : ℕ → Cell
plain_cell u = record { unit = u; attrs = none }

-- a text without attributes
abbrev pub plain : Text → Doc
plain us = map plain_cell us
