-- What is said of the fetched fronts of texts holds of the texts.
use Rattle.std.proofs.Common.{◌≡◌, ◌<◌, ◌≤◌, ◌+◌, ◌⊎◌, inl, inr, ℕ, List, [], length, map, take, slice_index_or, refl, ◌∙◌, ap, subst, arith}
use Rattle.std.proofs.lemmas.Bool.{cases_lt}
use Rattle.std.proofs.lemmas.List.{length-take, take_all}
use Rattle.std.proofs.Math.ListN.{get_or-map}
use Rattle.std.proofs.Math.Seq.{take-nil}
use Rattle.sexp_text.specs.declared.fault.TextFault.{TextFault}
use Rattle.sexp_text.specs.declared.fault.TextFault.TheVariants.{TooLong, NotAscii, BadChar, Unopened, Deep, BadNumber, LongName, Unclosed}
use Rattle.sexp_text.specs.Faults.{IsFirstFault}
use Rattle.sexp_text.specs.Text.{IsText}
use Rattle.rule_text.specs.declared.error.LoadFault.{LoadFault}
use Rattle.rule_text.specs.Faults.{Loading, IsTextOf, IsWholeText, IsFaultOf, in_bytes, in_item, in_whole}
use Rattle.sort_term.specs.declared.points.Point.{Point}
use Rattle.sort_term.specs.declared.points.Points.{Points}
use Rattle.sort_term.specs.Step.{Tables}
use Rattle.sort_term.specs.System.{System}
use Rattle.sort_term.specs.Tree.{Tree}
use Rattle.semantics_load.specs.Declaring.{nothing}
use Rattle.semantics_load.specs.Loads.{semantics_loading}
use Rattle.semantics_load.specs.Text.{declared_by}
use Rattle.program_text.specs.Rows.{no_rows, program_loading}
use Rattle.program_text.specs.States.{no_start, start_loading}
use Rattle.sync_points.specs.Pieces.{no_points}
use Rattle.sync_points.specs.Loads.{points_loading}
use Rattle.report_text.specs.declared.role.Role.{Role}
use Rattle.report_text.specs.declared.role.Role.TheVariants.{LeftSemantics, RightSemantics, LeftProgram, RightProgram, Points as PointsRole, Semantics, Program, Start}
use Rattle.keq_cli.specs.Words.{Task, check, run}
use Rattle.keq_cli.specs.Plan.{Texts, Plan, loads, ends, Ends}
use Rattle.keq_cli.specs.Tasks.{text_at, IsRefusal, with_semantics, with_program, with_start, with_points, with_ground, plan_of}
use Rattle.keq_cli.specs.declared.status.Status.{Status}

-- a front that is short is the whole text
short_front : (all front : List ℕ) → front ≡ take 1048577 all → length front ≤ 1048576 → front ≡ all
short_front all front is few = is ∙ take_all 1048577 all (omega (arith, few, length-take 1048577 all, ap length is))

-- a text that is too long is refused for that, and so is a front of it that is too long
too_long : (all front : List ℕ) → 1048576 < length all → 1048576 < length front → (fault : TextFault) → IsFirstFault front fault → IsFirstFault all fault
too_long all front long also (TooLong k) first = record { has = (first.has.0, long); first = λ other has. omega arith }
too_long all front long also (NotAscii k) first = absurd (let low : k + 1 ≤ 0 = first.first (TooLong 1048576) (refl, also) in omega arith)
too_long all front long also (BadChar k) first = absurd (let low : k + 1 ≤ 0 = first.first (TooLong 1048576) (refl, also) in omega arith)
too_long all front long also (Unopened k) first = absurd (let low : k + 1 ≤ 0 = first.first (TooLong 1048576) (refl, also) in omega arith)
too_long all front long also (Deep k) first = absurd (let low : k + 1 ≤ 0 = first.first (TooLong 1048576) (refl, also) in omega arith)
too_long all front long also (BadNumber k) first = absurd (let low : k + 1 ≤ 0 = first.first (TooLong 1048576) (refl, also) in omega arith)
too_long all front long also (LongName k) first = absurd (let low : k + 1 ≤ 0 = first.first (TooLong 1048576) (refl, also) in omega arith)
too_long all front long also (Unclosed k) first = absurd (let low : k + 1 ≤ 0 = first.first (TooLong 1048576) (refl, also) in omega arith)

-- a front and its text have the same first fault of their bytes
first_fault : (all front : List ℕ) → front ≡ take 1048577 all → (fault : TextFault) → IsFirstFault front fault → IsFirstFault all fault
first_fault all front is fault first = by (cases_lt 1048577 (length all))
  where
    by : (1048577 < length all) ⊎ (length all ≤ 1048577) → IsFirstFault all fault
    by (inl long) = too_long all front (omega (arith, long)) (omega (arith, long, length-take 1048577 all, ap length is)) fault first
    by (inr short) = subst (λ (bytes : List ℕ). IsFirstFault bytes fault) (is ∙ take_all 1048577 all short) first

module _ {D : Type 0} (l : Loading D) (start : D) (all front : List ℕ) (is : front ≡ take 1048577 all) where
  -- the value of a front is that of its text
  whole_value : (d : D) → IsWholeText l start front d → IsWholeText l start all d
  whole_value d t = subst (λ (bytes : List ℕ). IsWholeText l start bytes d) (short_front all front is t.text.text.short) t

  -- and so is its first fault
  whole_fault : (fault : LoadFault) → IsFaultOf l start front fault → IsFaultOf l start all fault
  whole_fault _ (in_bytes fault first) = in_bytes fault (first_fault all front is fault first)
  whole_fault _ (in_item forms place fault text at) = in_item forms place fault (subst (λ (bytes : List ℕ). IsText bytes forms) (short_front all front is text.short) text) at
  whole_fault _ (in_whole d fault text lacks) = in_whole d fault (subst (λ (bytes : List ℕ). IsTextOf l start bytes d) (short_front all front is text.text.short) text) lacks

  whole_refusal : (role : Role) (line : List ℕ) → IsRefusal role (IsFaultOf l start front) line → IsRefusal role (IsFaultOf l start all) line
  whole_refusal role line r = record { fault = r.fault; first = whole_fault r.fault r.first; is = r.is }

-- each step of a plan says of texts what it says of their fronts
Carries : Texts → Texts → Plan → Type 0
Carries fronts texts (loads A Makes Refuses next) = ((made : A) → Makes fronts made → Makes texts made) × ((line : List ℕ) → Refuses fronts line → Refuses texts line) × ((made : A) → Carries fronts texts (next made))
Carries fronts texts (ends End) = Unit {0}

-- so does the plan
carried : (fronts texts : Texts) (p : Plan) → Carries fronts texts p → (status : Status) (report : List ℕ) → Ends p fronts status report → Ends p texts status report
unfolding Carries
carried fronts texts (loads A Makes Refuses next) c status report (inl refused) = inl (refused.0, c.1 report refused.1)
carried fronts texts (loads A Makes Refuses next) c status report (inr made) = inr (made.0, c.0 made.0 made.1, carried fronts texts (next made.0) (c.2 made.0) status report made.2)
carried fronts texts (ends End) c status report e = e

module _ (fronts texts : Texts) (are : fronts ≡ map (take 1048577) texts) where
  front_at : (k : ℕ) → text_at fronts k ≡ take 1048577 (text_at texts k)
  front_at k =
      ap (λ (fs : Texts). text_at fs k) are
      ∙ subst (λ (none : List ℕ). slice_index_or (map (take 1048577) texts) k none ≡ take 1048577 (text_at texts k)) (take-nil 1048577) (get_or-map (take 1048577) texts k [])

  carries_semantics : (role : Role) (k : ℕ) (next : System → Plan) → ((s : System) → Carries fronts texts (next s)) → Carries fronts texts (with_semantics role k next)
  unfolding Carries
  carries_semantics role k next more = (
    λ s t. record { whole = whole_value semantics_loading nothing (text_at texts k) (text_at fronts k) (front_at k) (declared_by s) t.whole },
    whole_refusal semantics_loading nothing (text_at texts k) (text_at fronts k) (front_at k) role,
    more,
  )

  carries_program : (role : Role) (k : ℕ) (s : System) (next : Tables → Plan) → ((p : Tables) → Carries fronts texts (next p)) → Carries fronts texts (with_program role k s next)
  unfolding Carries
  carries_program role k s next more = (
    λ p t. record { whole = whole_value program_loading (no_rows s) (text_at texts k) (text_at fronts k) (front_at k) _ t.whole },
    whole_refusal program_loading (no_rows s) (text_at texts k) (text_at fronts k) (front_at k) role,
    more,
  )

  carries_start : (role : Role) (k : ℕ) (s : System) (next : Tree → Plan) → ((t : Tree) → Carries fronts texts (next t)) → Carries fronts texts (with_start role k s next)
  unfolding Carries
  carries_start role k s next more = (
    λ tree t. record { whole = whole_value start_loading (no_start s) (text_at texts k) (text_at fronts k) (front_at k) _ t.whole },
    whole_refusal start_loading (no_start s) (text_at texts k) (text_at fronts k) (front_at k) role,
    more,
  )

  carries_points : (role : Role) (k : ℕ) (left right : System) (next : Points → Plan) → ((p : Points) → Carries fronts texts (next p)) → Carries fronts texts (with_points role k left right next)
  unfolding Carries
  carries_points role k left right next more = (
    λ p t. record { whole = whole_value points_loading (no_points left right) (text_at texts k) (text_at fronts k) (front_at k) _ t.whole },
    whole_refusal points_loading (no_points left right) (text_at texts k) (text_at fronts k) (front_at k) role,
    more,
  )

  carries_ground : (points : List Point) (next : Plan) → Carries fronts texts next → Carries fronts texts (with_ground points next)
  unfolding Carries
  carries_ground points next more = (λ _ ground. ground, λ line refuses. refuses, λ _. more)

  carries_end : (End : Status → List ℕ → Type 0) → Carries fronts texts (ends End)
  unfolding Carries
  carries_end End = tt

  carries_task : (task : Task) → Carries fronts texts (plan_of task)
  carries_task (check steps) =
      carries_semantics LeftSemantics 0 _ (λ left.
      carries_semantics RightSemantics 1 _ (λ right.
      carries_program LeftProgram 2 left _ (λ lp.
      carries_program RightProgram 3 right _ (λ rp.
      carries_points PointsRole 4 left right _ (λ points.
      carries_ground points.points _ (carries_end _))))))
  carries_task (run steps) =
      carries_semantics Semantics 0 _ (λ s.
      carries_program Program 1 s _ (λ program.
      carries_start Start 2 s _ (λ start. carries_end _)))

  -- a task ends on texts as it does on their fronts
  pub whole_ends : (task : Task) (status : Status) (report : List ℕ) → Ends (plan_of task) fronts status report → Ends (plan_of task) texts status report
  whole_ends task status report e = carried fronts texts (plan_of task) (carries_task task) status report e
