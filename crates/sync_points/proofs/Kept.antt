-- Variables that are read keep what is asked of those that are written.
use Rattle.std.proofs.Common.{arith, ◌≡◌, ℕ, zero, suc, ◌<◌, ◌≤◌, Bool, true, IsTrue, List, [], ◌∷◌, All, map, get_or, Option, None, Some, option_map, refl, sym, ap, ◌∙◌, subst}
use Rattle.std.proofs.lemmas.Bool.Decides.{nat_tests}
use Rattle.std.proofs.lemmas.List.{get_or-map}
use Rattle.rule_text.specs.declared.item.RawSort.{RawSort}
use Rattle.rule_text.specs.declared.item.RawVar.{RawVar}
use Rattle.sort_term.specs.declared.rule.Var.{Var}
use Rattle.sort_term.specs.declared.term.Sort.{Sort}
use Rattle.sort_term.specs.declared.term.Sort.TheVariants.{Own, Plain}
use Rattle.sort_term.specs.Signature.{is_known, is_plain, AreVars}
use Rattle.name_resolution.specs.Known.{Vocabulary, sort_of}
use Rattle.name_resolution.specs.Named.{AreVarNames}
use Rattle.name_resolution.specs.Reads.{variable_of, variables_of}
use Rattle.name_resolution.specs.Variables.{AreVarsWithin}
use Rattle.name_resolution.proofs.Read.{all_stay, lengths_stay, names_pass, data_sorts_are_sorts, own_sorts_are_declared}
use Rattle.sync_points.specs.Pieces.{no_names}

-- each of a list of the same
always : {R : Type 0} (rs : List R) (k : ℕ) → get_or (map (λ _. true) rs) k true ≡ true
always [] k = refl
always (r ∷ rs) zero = refl
always (r ∷ rs) (suc k) = always rs k

all_true : {R X : Type 0} (f : X → Bool) (rs : List R) (xs : List X) → map f xs ≡ map (λ _. true) rs → All (λ x. IsTrue (f x)) xs
all_true f rs xs same k d within = sym (get_or-map f xs k d true within) ∙ ap (λ l. get_or l k true) same ∙ always rs k

-- variables that are read have the sorts that may be read
module _ (known : Vocabulary) (ok : Sort → Bool) (read : (raw : RawSort) (a : Sort) → sort_of known raw ≡ Some a → IsTrue (ok a)) where
  sort_stays : (raw : RawVar) (x : Var) → variable_of known raw ≡ Some x → ok x.sort ≡ true
  sort_stays raw x is = by (sort_of known raw.sort) refl is
    where
      by : (o : Option Sort) → sort_of known raw.sort ≡ o → option_map (λ (a : Sort). record { name = raw.name; sort = a }) o ≡ Some x → ok x.sort ≡ true
      by None there e = absurd cc
      by (Some a) there e = let same : a ≡ x.sort = cc in ap ok (sym same) ∙ read raw.sort a there

  pub read_vars : (raws : List RawVar) (vars : List Var) → AreVarNames raws → AreVarsWithin raws → variables_of known raws ≡ Some vars → AreVars ok vars
  read_vars raws vars names within is =
      let named = names_pass known raws vars names is in
      record {
        few = subst (λ n. n ≤ 64) (sym (lengths_stay known raws vars is)) within.few;
        distinct = named.0;
        free = named.1;
        sorts = all_true (λ (x : Var). ok x.sort) raws vars (all_stay (variable_of known) (λ (x : Var). ok x.sort) (λ _. true) sort_stays raws vars is);
      }

-- a sort that is read is known
pub sort_known : (known : Vocabulary) (raw : RawSort) (a : Sort) → sort_of known raw ≡ Some a → IsTrue (is_known known.sorts a)
sort_known known raw (Own a) is = let within = own_sorts_are_declared known raw a is in grind (arith, nat_tests)
sort_known known raw (Plain a) is = data_sorts_are_sorts known raw a is

-- and where no name is known it is one of data
pub sort_plain : (raw : RawSort) (a : Sort) → sort_of no_names raw ≡ Some a → IsTrue (is_plain a)
sort_plain raw (Own a) is = let within : a.0 < 0 = own_sorts_are_declared no_names raw a is in absurd (omega arith)
sort_plain raw (Plain a) is = data_sorts_are_sorts no_names raw a is
