-- Commits with their packs: where they come from, and what they are below heads.
use Rattle.std.proofs.Common.{◌≡◌, ⊎_elim, List, [], ◌∷◌, ◌++◌, map, Contains, sym, ◌∙◌, ap, subst, append_assoc}
use Rattle.std.proofs.lemmas.List.{map-append}
use Rattle.std.proofs.lemmas.Simd.{map-map}
use Rattle.std.proofs.lemmas.List.Elements.{Contains-push_cases}
use Rattle.gb_text.specs.declared.id.Name.{Name}
use Rattle.object_store.specs.Held.{Objects}
use Rattle.object_store.specs.Typed.{commit_at}
use Rattle.commit_walk.specs.Below.{AreBelow, IsCommit, names_of}
use Rattle.commit_walk.specs.Distinct.{AreDistinct}
use Rattle.commit_walk.specs.declared.below.Met.{Met}
use Rattle.commit_walk.proofs.DistinctLemmas.{Contains-map}
use Rattle.commit_pack.specs.Packs.{pack_under}
use Rattle.op_kind.specs.Meaning.{Meaning}
use Rattle.dag_entity.specs.Loading.{AreAllLoaded, AreLoadedOf, CannotLoad, IsLoadedOf, Lineage, LoadFails, lineage_of_loaded, lineage_of_met, loaded_names}
use Rattle.dag_entity.specs.Nodes.{IsNode, IsNodeBelow}
use Rattle.dag_entity.specs.Stops.{Refused}
use Rattle.dag_entity.specs.declared.entity.Loaded.{Loaded}
use Rattle.dag_entity.specs.declared.fault.EntityFault.{EntityFault}
use Rattle.dag_entity.specs.declared.fault.EntityFault.TheVariants as fault

-- a refusal by one cause is one by another that it gives
pub Refused-map : (P Q : EntityFault → Type 0) → ((f : EntityFault) → P f → Q f) → (f : EntityFault) → Refused P f → Refused Q f
Refused-map P Q then fault.Memory h = tt
Refused-map P Q then fault.Disk h = tt
Refused-map P Q then f h = then f h

-- a fault that holds refuses
pub refused : (P : EntityFault → Type 0) (f : EntityFault) → P f → Refused P f
refused P fault.Memory h = tt
refused P fault.Disk h = tt
refused P f h = h

-- one more was loaded
pub lineages_more : {Op : Type 0} (loaded more : List (Loaded Op)) (one : Loaded Op) (met : Met) (left rest walk : List Met)
    → more ≡ loaded ++ one ∷ [] → left ≡ met ∷ rest → lineage_of_loaded one ≡ lineage_of_met met
    → map lineage_of_loaded loaded ++ map lineage_of_met left ≡ map lineage_of_met walk → map lineage_of_loaded more ++ map lineage_of_met rest ≡ map lineage_of_met walk
lineages_more {Op = Op} loaded more one met left rest walk pushed split lineage before =
    ap (λ (l : List (Loaded Op)). map lineage_of_loaded l ++ map lineage_of_met rest) pushed
    ∙ ap (λ (l : List Lineage). l ++ map lineage_of_met rest) (map-append (lineage_of_loaded {Op = Op}) loaded (one ∷ []))
    ∙ append_assoc (map lineage_of_loaded loaded) (lineage_of_loaded one ∷ []) (map lineage_of_met rest)
    ∙ ap (λ (l : Lineage). map lineage_of_loaded loaded ++ l ∷ map lineage_of_met rest) lineage
    ∙ ap (λ (l : List Met). map lineage_of_loaded loaded ++ map lineage_of_met l) (sym split)
    ∙ before

module _ {Op State Row : Type 0} (k : Meaning Op State Row) (objects : Objects) (walk : List Met) where
  pub AreLoadedOf-push : (loaded : List (Loaded Op)) (one : Loaded Op) → AreLoadedOf k objects walk loaded → IsLoadedOf k objects walk one → AreLoadedOf k objects walk (loaded ++ one ∷ [])
  AreLoadedOf-push loaded one all is other c =
      ⊎_elim (λ (h : Contains loaded other). all other h) (λ (e : one ≡ other). subst (IsLoadedOf k objects walk) e is) (Contains-push_cases loaded one other c)

  -- what keeps one from being loaded keeps all
  pub all_refused : (met : Met) (f : EntityFault) → Contains walk met → Refused (LoadFails k objects met) f → Refused (CannotLoad k objects walk) f
  all_refused met f among h =
      Refused-map (LoadFails k objects met) (CannotLoad k objects walk)
      (λ g fails. record { met = met; among = among; stop = fails.0; holds = fails.1; is = fails.2 }) f h

  -- the names of what was loaded are those of the walk
  same_names : (loaded : List (Loaded Op)) → map lineage_of_loaded loaded ≡ map lineage_of_met walk → loaded_names loaded ≡ names_of walk
  same_names loaded lineages =
      sym (map-map (λ (l : Lineage). l.name) (lineage_of_loaded {Op = Op}) loaded) ∙ ap (map (λ (l : Lineage). l.name)) lineages ∙ map-map (λ (l : Lineage). l.name) lineage_of_met walk

  -- a commit that was loaded is a node
  pub loaded_node : ((met : Met) → Contains walk met → IsCommit objects met) → (one : Loaded Op) → IsLoadedOf k objects walk one → IsNode k objects one
  loaded_node each one of =
      let commit = each of.met of.among in
      let name : one.placed.commit ≡ of.met.name = ap (λ (l : Lineage). l.name) of.is.lineage in
      let parents : one.parents ≡ of.met.parents = ap (λ (l : Lineage). l.parents) of.is.lineage in
      record {
        commit = commit.commit;
        held = ap (commit_at objects) name ∙ commit.held;
        parents = parents ∙ commit.parents;
        pack = ap (pack_under k objects) (sym commit.tree) ∙ of.is.has;
      }

  -- the commits of a whole walk were loaded
  pub all_loaded : (heads : List Name) (loaded : List (Loaded Op)) → AreBelow objects heads walk → map lineage_of_loaded loaded ≡ map lineage_of_met walk
      → AreLoadedOf k objects walk loaded → AreAllLoaded k objects heads loaded
  all_loaded heads loaded whole lineages are =
      let names : loaded_names loaded ≡ names_of walk = same_names loaded lineages in
      record {
        all = λ name below. subst (λ (l : List Name). Contains l name) (sym names) (whole.all name below);
        each = λ one c. node_below one (are one c) (subst (λ (l : List Name). Contains l one.placed.commit) names (Contains-map (λ (l : Loaded Op). l.placed.commit) loaded one c));
        once = subst AreDistinct (sym names) whole.once;
      }
    where
      node_below : (one : Loaded Op) → IsLoadedOf k objects walk one → Contains (names_of walk) one.placed.commit → IsNodeBelow k objects heads one
      node_below one of c = record { below = whole.only one.placed.commit c; is = loaded_node whole.each one of }
