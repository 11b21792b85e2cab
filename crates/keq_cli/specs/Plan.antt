-- Loading as a sequence of steps, and how it ends.
use Rattle.std.specs.Prelude.{◌≡◌, ◌⊎◌, ℕ, List}
use Rattle.keq_cli.specs.declared.status.Status.{Status}
use Rattle.keq_cli.specs.declared.status.Status.TheVariants.{Refused}

-- texts, in the order of the names
abbrev pub Texts : Type 0
Texts = List (List ℕ)

-- What is done with texts: steps of loading, each of which makes a value of the texts or refuses them with a line, and goes on
-- with what it made; and at the end a status and a report.
pub data Plan : Type 1 where
  loads : (A : Type 0) → (Makes : Texts → A → Type 0) → (Refuses : Texts → List ℕ → Type 0) → (A → Plan) → Plan
  ends : (Status → List ℕ → Type 0) → Plan

-- how a plan ends on texts: with the line of the first step that refuses them, or as it says at its end
abbrev pub Ends : Plan → Texts → Status → List ℕ → Type 0
Ends (loads A Makes Refuses next) texts status report =
    ((status ≡ Refused) × Refuses texts report) ⊎ ((made : A) × Makes texts made × Ends (next made) texts status report)
Ends (ends End) texts status report = End status report

-- at most one thing has P
abbrev pub AtMostOne : {X : Type 0} → (X → Type 0) → Type 0
AtMostOne {X} P = (x y : X) → P x → P y → x ≡ y

-- a step makes one value or refuses with one line, and never both
pub record IsDecided {A : Type 0} (Makes : A → Type 0) (Refuses : List ℕ → Type 0) : Type 0 where
  pub one_value : AtMostOne Makes
  pub one_line : AtMostOne Refuses
  pub not_both : (made : A) (line : List ℕ) → Makes made → ¬ Refuses line

-- at most one status and one report are the end
abbrev pub HasOneEnd : (Status → List ℕ → Type 0) → Type 0
HasOneEnd End = (s t : Status) (x y : List ℕ) → End s x → End t y → (s ≡ t) × (x ≡ y)

-- on these texts each step of a plan is decided, and so is its end
abbrev pub AreDecided : Plan → Texts → Type 0
AreDecided (loads A Makes Refuses next) texts = IsDecided (Makes texts) (Refuses texts) × ((made : A) → Makes texts made → AreDecided (next made) texts)
AreDecided (ends End) texts = HasOneEnd End
