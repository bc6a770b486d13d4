-- From the walk above a known name to the packs above it.
use Rattle.std.proofs.Common.{◌≡◌, inl, inr, ⊎_elim, ◌≤◌, ◌+◌, ◌*◌, ℕ, List, [], ◌∷◌, length, map, Contains, Some, Err, refl, sym, ◌∙◌, ap, subst, arith}
use Rattle.std.proofs.lemmas.Bool.{cases_lt}
use Rattle.std.proofs.lemmas.List.{length-map}
use Rattle.std.proofs.lemmas.Option.{same_Some}
use Rattle.gb_text.specs.declared.id.Id.{Id}
use Rattle.gb_text.specs.declared.id.Name.{Name}
use Rattle.git_object.specs.declared.commit.Commit.{Commit}
use Rattle.object_store.specs.Held.{Objects}
use Rattle.object_store.specs.Typed.{commit_at}
use Rattle.commit_walk.specs.Above.{AboveAnswers, IsChainAbove, LeavesOut, link_of}
use Rattle.commit_walk.specs.Below.{IsBelow, names_of}
use Rattle.commit_walk.specs.Chain.{Chain, IsLink}
use Rattle.commit_walk.specs.Passing.{ReadsAbove}
use Rattle.commit_walk.specs.declared.below.Met.{Met}
use Rattle.commit_walk.specs.declared.chain.Link.{Link}
use Rattle.commit_walk.specs.declared.fault.WalkStop.{WalkStop}
use Rattle.commit_walk.specs.declared.fault.WalkStop.TheVariants as stop
use Rattle.commit_walk.proofs.ChainLemmas.{chain_below}
use Rattle.commit_walk.proofs.DistinctLemmas.{Contains-cons, Contains-first, Contains-later, Contains-nil}
use Rattle.op_kind.specs.Meaning.{Meaning}
use Rattle.dag_entity.specs.Entities.{ReadsEach}
use Rattle.dag_entity.specs.Faults.{EntityFaultHolds}
use Rattle.dag_entity.specs.Loading.{AreLoadedOf, CannotLoad, Lineage, lineage_of_loaded, lineage_of_met, placed_of}
use Rattle.dag_entity.specs.Nodes.{IsNode}
use Rattle.dag_entity.specs.Since.{HasNoChainTo, IsChainTo, ReadsChain}
use Rattle.dag_entity.specs.Stops.{Refused, walk_stop}
use Rattle.dag_entity.specs.declared.entity.Loaded.{Loaded}
use Rattle.dag_entity.specs.declared.entity.Placed.{Placed}
use Rattle.dag_entity.specs.declared.fault.EntityFault.{EntityFault}
use Rattle.dag_entity.proofs.LoadLemmas.{loaded_node}
use Rattle.dag_entity.proofs.ReadLemmas.{loads_refused, walk_refused}

-- the commits of a chain lie below its head
met_below : (objects : Objects) (head known : Name) (chain : List Met) → Chain objects head (map link_of chain) known → (name : Name) → Contains (names_of chain) name → IsBelow objects (head ∷ []) name
met_below objects head known [] leads name c = absurd (Contains-nil name c)
met_below objects head known (met ∷ chain) leads name c = ⊎_elim
    (λ (e : met.name ≡ name). subst (IsBelow objects (head ∷ [])) e (chain_below objects head (map link_of chain) met.name leads.0))
    (λ (h : Contains (names_of chain) name). met_below objects head met.name chain leads.0 name h)
    (Contains-cons met.name (names_of chain) name c)

-- packs that were loaded are as many as the commits
same_length : {Op : Type 0} (loaded : List (Loaded Op)) (chain : List Met) → map lineage_of_loaded loaded ≡ map lineage_of_met chain → length (map placed_of loaded) ≡ length chain
same_length {Op = Op} loaded chain lineages =
    length-map loaded (placed_of {Op = Op}) ∙ sym (length-map loaded (lineage_of_loaded {Op = Op})) ∙ ap length lineages ∙ length-map chain lineage_of_met

module _ {Op State Row : Type 0} (k : Meaning Op State Row) (objects : Objects) (head : Name) where
  -- ---- chains of links, and chains of packs

  loaded_leads : (known : Name) (chain : List Met) (loaded : List (Loaded Op)) → Chain objects head (map link_of chain) known → map lineage_of_loaded loaded ≡ map lineage_of_met chain
      → ((one : Loaded Op) → Contains loaded one → IsNode k objects one) → IsChainTo k objects head known (map placed_of loaded)
  loaded_leads known [] [] leads lineages nodes = leads
  loaded_leads known [] (one ∷ loaded) leads lineages nodes = absurd (cc (lineages))
  loaded_leads known (met ∷ chain) [] leads lineages nodes = absurd (cc (lineages))
  loaded_leads known (met ∷ chain) (one ∷ loaded) leads lineages nodes =
      let first : lineage_of_loaded one ≡ lineage_of_met met = cc (lineages) in
      let rest : map lineage_of_loaded loaded ≡ map lineage_of_met chain = cc (lineages) in
      let name : one.placed.commit ≡ met.name = ap (λ (l : Lineage). l.name) first in
      let node = nodes one (Contains-first one loaded) in
      let link : IsLink objects (link_of met) (known ∷ []) = leads.1 in
      let same : link.commit ≡ node.commit = same_Some link.commit node.commit (sym link.held ∙ ap (commit_at objects) (sym name) ∙ node.held) in (
        subst (λ (n : Name). IsChainTo k objects head n (map placed_of loaded)) (sym name) (loaded_leads met.name chain loaded leads.0 rest (λ other c. nodes other (Contains-later one loaded other c))),
        record { commit = node.commit; held = node.held; parents = link.parents ∙ ap (λ (c : Commit). c.parents) same; pack = node.pack },
      )

  -- the links of packs
  links : (known : Name) (packs : List (Placed Op)) → IsChainTo k objects head known packs → (above : List Link) × Chain objects head above known × (length above ≡ length packs)
  links known [] leads = ([], leads, refl)
  links known (low ∷ packs) leads =
      let above = links low.commit packs leads.0 in
      let node = leads.1 in
      (record { name = low.commit; tree = node.commit.tree } ∷ above.0, (above.1, record { commit = node.commit; held = node.held; tree = refl; parents = node.parents }), omega (arith, above.2))

  pub leaves_out : (known : Name) → LeavesOut objects head known → HasNoChainTo k objects head known
  leaves_out known none packs leads = let above = links known packs leads in none above.0 above.1

  module _ (known : Name) (chain : List Met) (is : IsChainAbove objects head known chain) (loaded : List (Loaded Op)) (lineages : map lineage_of_loaded loaded ≡ map lineage_of_met chain) where
    -- the packs of a chain
    pub chain_to : AreLoadedOf k objects chain loaded → IsChainTo k objects head known (map placed_of loaded)
    chain_to are = loaded_leads known chain loaded is.leads lineages (λ one c. loaded_node k objects chain is.each one (are one c))

    -- there is one where the names differ
    pub some_pack : (head ≡ known → ⊥) → 1 ≤ length (map placed_of loaded)
    some_pack differ = some chain is.leads (same_length loaded chain lineages)
      where
        some : (mets : List Met) → Chain objects head (map link_of mets) known → length (map placed_of loaded) ≡ length mets → 1 ≤ length (map placed_of loaded)
        some [] leads count = absurd (differ (sym leads))
        some (met ∷ mets) leads count = omega (arith, count)

  -- ---- what stops the reading

  module _ (id : Id) (authors : List Id) (known : Name) where
    pub above_refuses : (s : WalkStop) → AboveAnswers objects head known (Err s) → Refused (EntityFaultHolds k objects id (head ∷ []) authors) (walk_stop s)
    above_refuses stop.Memory h = walk_refused k objects (head ∷ []) id authors stop.Memory tt
    above_refuses stop.Disk h = walk_refused k objects (head ∷ []) id authors stop.Disk tt
    above_refuses (stop.Fault f) h = walk_refused k objects (head ∷ []) id authors (stop.Fault f) h

    pub chain_refused : (chain : List Met) (f : EntityFault) → IsChainAbove objects head known chain → Refused (CannotLoad k objects chain) f → Refused (EntityFaultHolds k objects id (head ∷ []) authors) f
    chain_refused chain f is h = loads_refused k objects (head ∷ []) id authors chain f is.each (met_below objects head known chain is.leads) h

  -- ---- how many objects were read

  module _ (known : Name) where
    -- of a chain
    pub reads_of_chain : (chain : List Met) (before mid after : ℕ) → IsChainAbove objects head known chain → mid ≤ before + length chain → after ≤ mid + 2 * length chain
        → ReadsEach objects (head ∷ []) 3 before after
    reads_of_chain chain before mid after is one two = record {
      names = names_of chain;
      once = is.once;
      each = met_below objects head known chain is.leads;
      few = omega (arith, one, two, length-map chain (λ (m : Met). m.name));
    }

    -- of the chain, though another leads there
    pub chain_reads : (chain : List Met) (before mid after : ℕ) → IsChainAbove objects head known chain → mid ≤ before + length chain → after ≤ mid + 2 * length chain → ReadsChain k objects head known before after
    chain_reads chain before mid after is one two packs leads =
        let above = links known packs leads in
        let fewer = is.fewest above.0 above.1 in
        omega (arith, one, two, fewer, above.2)

    -- of a walk that gave nothing
    pub walk_reads : (before after : ℕ) → ReadsAbove objects head known before after → after ≤ before + 65537 → ReadsChain k objects head known before after
    walk_reads before after reads most packs leads =
        let above = links known packs leads in
        elim (cases_lt 65536 (length above.0)) [
          | inl far ↦ omega (arith, far, most, above.2)
          | inr near ↦ let few = reads (record { above = above.0; chain = above.1; near = near }) in omega (arith, few, above.2)
        ]

    -- where no steps lead there
    pub no_reads : (before after : ℕ) → LeavesOut objects head known → ReadsChain k objects head known before after
    no_reads before after none packs leads = absurd (leaves_out known none packs leads)
