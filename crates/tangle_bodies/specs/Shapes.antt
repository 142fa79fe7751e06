-- The shapes of a web: the pieces of each node, without section numbers and origins, and with each
-- use resolved.
use Rattle.std.specs.Prelude.{ℕ, Bool, true, false, List, [], ◌∷◌, flat_map, map, Contains}
use Rattle.std.specs.Str.{bytes_eq}

-- the title of a node: that it is the unnamed program, or its full name, by its bytes
pub data Title : Type 0 where
  Program : Title
  Named : List ℕ → Title

abbrev pub title_eq : Title → Title → Bool
title_eq Program Program = true
title_eq (Named name) (Named other) = bytes_eq name other
title_eq _ _ = false

-- the kind of an item whose bytes are written unchanged
pub data Kind : Type 0 where
  Word : Kind
  Sign : Kind
  Quoted : Kind
  QuoteBreak : Kind
  Verbatim : Kind
  AsciiConstant : Kind
  Blank : Kind
  LineEnd : Kind
  deriving Discrete as kind_discrete

-- an item of a shape
pub data ShapeItem : Type 0 where
  -- an item of this kind, with the bytes that are written
  Written : Kind → List ℕ → ShapeItem
  -- a line mark, without its origin
  Mark : ShapeItem
  -- all macros of the web
  AllMacros : ShapeItem
  -- a use that resolves to this name
  Use : List ℕ → ShapeItem
  -- a use that does not resolve to a name
  NoUse : ShapeItem
  deriving Discrete as item_discrete

abbrev pub Shape : Type 0
Shape = List (List ShapeItem)

-- the shape of each node; that of a node without a piece is empty
abbrev pub Shapes : Type 0
Shapes = Title → Shape

-- the names of the uses, one for each use

abbrev pub item_names : ShapeItem → List (List ℕ)
item_names (Use name) = name ∷ []
item_names _ = []

abbrev pub shape_names : Shape → List (List ℕ)
shape_names shape = flat_map (λ items. flat_map item_names items) shape

-- the titles of what the uses name, one for each use
abbrev pub shape_titles : Shape → List Title
shape_titles shape = map Named (shape_names shape)

-- One node uses another: it has a use of the other's name. Nothing uses the program. What a node
-- reaches along these uses, and whether it contains itself, is as in `digraph`.
abbrev pub Uses : Shapes → Title → Title → Type 0
Uses shapes user Program = ⊥
Uses shapes user (Named name) = Contains (shape_names (shapes user)) name
