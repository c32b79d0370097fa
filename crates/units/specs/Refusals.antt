-- What is said of a text that is refused.
use Rattle.std.specs.Prelude.{ℕ, ◌+◌, ◌-◌, List, [], ◌∷◌, ◌++◌, take, codes, ◌==◌, if◌then◌else◌}
use Rattle.std.specs.Fmt.{decimal}
use Rattle.units.specs.declared.error.Refusal.{Refusal}
use Rattle.units.specs.declared.error.Refusal.TheVariants.{NoToken, TooMany, NotElan, NoMeaning}
use Rattle.elan_types.specs.declared.why.Why.{Why}
use Rattle.elan_types.specs.declared.why.Why.TheVariants.{Unknown, Doubled, WrongType, NoVariable, WrongPlace, TooLarge}

-- a line and a place in it, both from 1
pub record Position : Type 0 where
  pub line : ℕ
  pub column : ℕ

-- byte 10 begins the next line
abbrev pub past_byte : Position → ℕ → Position
past_byte p b = if b == 10 then record { line = p.line + 1; column = 1 } else record { line = p.line; column = p.column + 1 }

abbrev pub past : Position → List ℕ → Position
past p [] = p
past p (b ∷ bytes) = past (past_byte p b) bytes

-- where a byte of a text stands, by its place from 1
abbrev pub position_of : List ℕ → ℕ → Position
position_of text place = past (record { line = 1; column = 1 }) (take (place - 1) text)

abbrev pub why_text : Why → List ℕ
why_text Unknown = codes "unbekannt"
why_text Doubled = codes "doppelt"
why_text WrongType = codes "falscher Typ"
why_text NoVariable = codes "keine Variable"
why_text WrongPlace = codes "falsche Stelle"
why_text TooLarge = codes "zu gross"

abbrev pub position_text : Position → List ℕ
position_text p = codes " (Zeile " ++ (decimal p.line ++ (codes ", Stelle " ++ (decimal p.column ++ codes ")")))

-- what is said of a text that is refused at a place
abbrev pub refusal_at : List ℕ → List ℕ → ℕ → List ℕ
refusal_at reason text place = codes "FEHLER : " ++ (reason ++ position_text (position_of text place))

-- what is said of a text that is refused so
abbrev pub refusal_text : Refusal → List ℕ → List ℕ
refusal_text (NoToken place) text = refusal_at (codes "kein Symbol") text place
refusal_text TooMany text = codes "FEHLER : zu viele Symbole"
refusal_text (NotElan place) text = refusal_at (codes "kein ELAN-Text") text place
refusal_text (NoMeaning place why) text = refusal_at (why_text why) text place
