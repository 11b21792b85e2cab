-- A text that does not load stops a command with its refusal.
use Rattle.std.proofs.Common.{◌≡◌, ℕ, List, Result, Ok, Err, IfErr, sym, subst}
use Rattle.std.specs.Result.{IsErrAnd}
use Rattle.rule_text.specs.Faults.{Loading, IsFaultOf, IsLoadError}
use Rattle.rule_text.specs.declared.error.LoadError.{LoadError}
use Rattle.rule_text.specs.declared.error.LoadError.TheVariants as error
use Rattle.report_text.specs.declared.role.Role.{Role}
use Rattle.keq_cli.specs.Tasks.{IsRefusal}
use Rattle.keq_cli.specs.Stopping.{StopsWith, IsErrorLine}
use Rattle.keq_cli.specs.declared.loading.Stopped.{Stopped}
use Rattle.keq_cli.specs.declared.loading.Stopped.TheVariants.{Refused, NoMemory}

pub stops_refused : {D : Type 0} (l : Loading D) (start : D) (bytes : List ℕ) (role : Role) (e : LoadError) (stopped : Stopped) → StopsWith (IsErrorLine role e) stopped → IsLoadError l start bytes e → StopsWith (IsRefusal role (IsFaultOf l start bytes)) stopped
stops_refused l start bytes role e NoMemory stops has = tt
stops_refused l start bytes role (error.Fault fault) (Refused line) stops has = record { fault = fault; first = has; is = stops }
stops_refused l start bytes role error.NoMemory (Refused line) stops has = absurd stops

-- what stops a command with one fact stops it with what follows
pub stops_weaker : (P Q : List ℕ → Type 0) → ((line : List ℕ) → P line → Q line) → (stopped : Stopped) → StopsWith P stopped → StopsWith Q stopped
stops_weaker P Q more (Refused line) stops = more line stops
stops_weaker P Q more NoMemory stops = tt

-- what is told of what stops a command holds of what `?` passes on
pub passed_on : {X : Type 0} (P : Stopped → Type 0) (stopped : Stopped) (r : Result X Stopped) → IsErrAnd r (λ e. e ≡ stopped) → P stopped → IfErr r P
passed_on P stopped (Ok x) is told = tt
passed_on P stopped (Err e) is told = subst P (sym is) told
