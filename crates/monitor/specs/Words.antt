-- What the tokens of a line say, and how commands are spelled.
use Rattle.std.specs.Prelude.{ℕ, Bool, true, false, ◌&&◌, if◌then◌else◌, List, [], ◌∷◌, map, Option, Some, None}
use Rattle.elan_tree.specs.declared.token.Token.{Token}
use Rattle.elan_tree.specs.declared.token.Word.{Word}
use Rattle.elan_tree.specs.declared.token.Word.TheVariants.{Ident, Sign, Text}
use Rattle.elan_tree.specs.declared.token.Sign.TheVariants.{LeftRound, RightRound, Comma}

-- what tokens say, wherever they stand
abbrev pub words : List Token → List Word
words tokens = map (λ t. t.what) tokens

-- a name alone
abbrev pub alone : List ℕ → List Word
alone name = Ident name ∷ []

-- name ("x")
abbrev pub with_text : List ℕ → List ℕ → List Word
with_text name x = Ident name ∷ (Sign LeftRound ∷ (Text x ∷ (Sign RightRound ∷ [])))

-- name ("x", "y")
abbrev pub with_texts : List ℕ → List ℕ → List ℕ → List Word
with_texts name x y = Ident name ∷ (Sign LeftRound ∷ (Text x ∷ (Sign Comma ∷ (Text y ∷ (Sign RightRound ∷ [])))))

-- ---- what is read off words

abbrev pub opens : Word → Bool
opens (Sign LeftRound) = true
opens _ = false

abbrev pub closes : Word → Bool
closes (Sign RightRound) = true
closes _ = false

abbrev pub separates : Word → Bool
separates (Sign Comma) = true
separates _ = false

abbrev pub text_of : Word → Option (List ℕ)
text_of (Text x) = Some x
text_of _ = None

-- the text that stands alone between brackets
abbrev pub text_in : List Word → Option (List ℕ)
text_in (left ∷ (text ∷ (right ∷ []))) = if opens left && closes right then text_of text else None
text_in _ = None

abbrev pub both : Option (List ℕ) → Option (List ℕ) → Option (List ℕ × List ℕ)
both (Some x) (Some y) = Some (x, y)
both _ _ = None

-- the two texts that stand between brackets, with a comma between them
abbrev pub texts_in : List Word → Option (List ℕ × List ℕ)
texts_in (left ∷ (first ∷ (comma ∷ (second ∷ (right ∷ []))))) =
    if opens left && (separates comma && closes right) then both (text_of first) (text_of second) else None
texts_in _ = None
