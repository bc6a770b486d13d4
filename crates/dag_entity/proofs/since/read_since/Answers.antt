use Rattle.std.proofs.Common.{rules, ◌≡◌, ◌≢◌, ◌≤◌, ◌+◌, ◌∷◌, [], length, map, Ok, Err, List, refl, sym, ◌∙◌, ap, subst}
use Rattle.gb_store.specs.Files.{History}
use Rattle.object_store.specs.Held.{objects_after}
use Rattle.commit_walk.specs.Above.{AboveAnswers, IfMet, IsChainAbove}
use Rattle.commit_walk.specs.Below.{AreBelow}
use Rattle.commit_walk.specs.declared.above.Above.TheVariants as above
use Rattle.commit_walk.proofs.PassingLemmas.{name_differs}
use Rattle.dag_entity.specs.Entities.{IsEntity, KeepsRules}
use Rattle.dag_entity.specs.Loading.{AreLoadedOf, CannotLoad, placed_of}
use Rattle.dag_entity.specs.Since.{IsChainTo, SinceAnswers}
use Rattle.dag_entity.specs.Stops.{Refused, walk_stop}
use Rattle.dag_entity.proofs.ReadLemmas.{reads_of_all, reads_of_walk, rules_placed}
use Rattle.dag_entity.proofs.SinceLemmas.{above_refuses, chain_reads, chain_refused, chain_to, leaves_out, no_reads, reads_of_chain, some_pack, walk_reads}
use Rattle.dag_entity.proofs.since.read_since.Goals as goal

-- ---- the walk stops

pub returns-in_err-chain-clause-answers : goal.returns-in_err-chain-clause-answers
returns-in_err-chain-clause-answers g c = λ tells.
    let objects = objects_after (g.S.Store.history c.args.disk.now) c.args.folder.now in
    let k = g.K.OpKind.meaning in
    let s = c.in_err-chain.field-0.0 in
    let is : c.from_residual.result ≡ Err (walk_stop s) = search rules in
    subst (λ r. SinceAnswers k objects c.args.id.now c.args.head.now c.args.known.now c.args.authors.now r) (sym is)
    (above_refuses k objects c.args.head.now c.args.id.now c.args.authors.now c.args.known.now s (c.in_err-chain.ensures.answers tells))

pub returns-in_err-chain-clause-reads : goal.returns-in_err-chain-clause-reads
returns-in_err-chain-clause-reads g c = λ tells. reads_of_walk g.K.OpKind.meaning _ _ _ _ (c.in_err-chain.ensures.each tells)

pub returns-in_err-chain-clause-above : goal.returns-in_err-chain-clause-above
returns-in_err-chain-clause-above g c = λ tells.
    walk_reads g.K.OpKind.meaning (objects_after (g.S.Store.history c.args.disk.now) c.args.folder.now) c.args.head.now c.args.known.now
    (g.S.Store.object_reads c.args.disk.now) (g.S.Store.object_reads c.walk_above.new.disk) (c.in_err-chain.ensures.above tells) c.in_err-chain.ensures.reads

-- ---- a chain

pub returns-in_err-loaded-in-Chain-clause-answers : goal.returns-in_err-loaded-in-Chain-clause-answers
returns-in_err-loaded-in-Chain-clause-answers g c = λ tells.
    let objects = objects_after (g.S.Store.history c.args.disk.now) c.args.folder.now in
    let k = g.K.OpKind.meaning in
    let chain = c.in-Chain.chain.items in
    let f = c.in_err-loaded-in-Chain.field-0.0 in
    let is : c.from_residual-in_err-loaded-in-Chain.result ≡ Err f = search rules in
    let found : IsChainAbove objects c.args.head.now c.args.known.now chain = subst (λ a. AboveAnswers objects c.args.head.now c.args.known.now (Ok a)) c.in-Chain.is (c.in_ok-chain.ensures.answers tells) in
    let fails : Refused (CannotLoad k objects chain) f =
    subst (λ (h : History). Refused (CannotLoad k (objects_after h c.args.folder.now) chain) f) (c.in_ok-chain.ensures.unwritten tells) (c.in_err-loaded-in-Chain.ensures.answers tells) in
    subst (λ r. SinceAnswers k objects c.args.id.now c.args.head.now c.args.known.now c.args.authors.now r) (sym is)
    (chain_refused k objects c.args.head.now c.args.id.now c.args.authors.now c.args.known.now chain f found fails)

pub returns-in_err-loaded-in-Chain-clause-reads : goal.returns-in_err-loaded-in-Chain-clause-reads
returns-in_err-loaded-in-Chain-clause-reads g c = λ tells.
    let objects = objects_after (g.S.Store.history c.args.disk.now) c.args.folder.now in
    let before = g.S.Store.object_reads c.args.disk.now in
    let mid = g.S.Store.object_reads c.walk_above.new.disk in
    let chain = c.in-Chain.chain.items in
    let found : IsChainAbove objects c.args.head.now c.args.known.now chain = subst (λ a. AboveAnswers objects c.args.head.now c.args.known.now (Ok a)) c.in-Chain.is (c.in_ok-chain.ensures.answers tells) in
    let once : mid ≤ before + length chain = subst (λ a. IfMet (Ok a) (λ w. mid ≤ before + length w)) c.in-Chain.is c.in_ok-chain.ensures.once in
    reads_of_chain g.K.OpKind.meaning objects c.args.head.now c.args.known.now chain before mid (g.S.Store.object_reads c.load_all.new.disk) found once c.in_err-loaded-in-Chain.ensures.reads

pub returns-in_err-loaded-in-Chain-clause-above : goal.returns-in_err-loaded-in-Chain-clause-above
returns-in_err-loaded-in-Chain-clause-above g c = λ tells.
    let objects = objects_after (g.S.Store.history c.args.disk.now) c.args.folder.now in
    let before = g.S.Store.object_reads c.args.disk.now in
    let mid = g.S.Store.object_reads c.walk_above.new.disk in
    let chain = c.in-Chain.chain.items in
    let found : IsChainAbove objects c.args.head.now c.args.known.now chain = subst (λ a. AboveAnswers objects c.args.head.now c.args.known.now (Ok a)) c.in-Chain.is (c.in_ok-chain.ensures.answers tells) in
    let once : mid ≤ before + length chain = subst (λ a. IfMet (Ok a) (λ w. mid ≤ before + length w)) c.in-Chain.is c.in_ok-chain.ensures.once in
    chain_reads g.K.OpKind.meaning objects c.args.head.now c.args.known.now chain before mid (g.S.Store.object_reads c.load_all.new.disk) found once c.in_err-loaded-in-Chain.ensures.reads

pub returns-in_err-packs-in-Chain-clause-reads : goal.returns-in_err-packs-in-Chain-clause-reads
returns-in_err-packs-in-Chain-clause-reads g c = λ tells.
    let objects = objects_after (g.S.Store.history c.args.disk.now) c.args.folder.now in
    let before = g.S.Store.object_reads c.args.disk.now in
    let mid = g.S.Store.object_reads c.walk_above.new.disk in
    let chain = c.in-Chain.chain.items in
    let found : IsChainAbove objects c.args.head.now c.args.known.now chain = subst (λ a. AboveAnswers objects c.args.head.now c.args.known.now (Ok a)) c.in-Chain.is (c.in_ok-chain.ensures.answers tells) in
    let once : mid ≤ before + length chain = subst (λ a. IfMet (Ok a) (λ w. mid ≤ before + length w)) c.in-Chain.is c.in_ok-chain.ensures.once in
    reads_of_chain g.K.OpKind.meaning objects c.args.head.now c.args.known.now chain before mid (g.S.Store.object_reads c.load_all.new.disk) found once c.in_ok-loaded-in-Chain.ensures.reads

pub returns-in_err-packs-in-Chain-clause-above : goal.returns-in_err-packs-in-Chain-clause-above
returns-in_err-packs-in-Chain-clause-above g c = λ tells.
    let objects = objects_after (g.S.Store.history c.args.disk.now) c.args.folder.now in
    let before = g.S.Store.object_reads c.args.disk.now in
    let mid = g.S.Store.object_reads c.walk_above.new.disk in
    let chain = c.in-Chain.chain.items in
    let found : IsChainAbove objects c.args.head.now c.args.known.now chain = subst (λ a. AboveAnswers objects c.args.head.now c.args.known.now (Ok a)) c.in-Chain.is (c.in_ok-chain.ensures.answers tells) in
    let once : mid ≤ before + length chain = subst (λ a. IfMet (Ok a) (λ w. mid ≤ before + length w)) c.in-Chain.is c.in_ok-chain.ensures.once in
    chain_reads g.K.OpKind.meaning objects c.args.head.now c.args.known.now chain before mid (g.S.Store.object_reads c.load_all.new.disk) found once c.in_ok-loaded-in-Chain.ensures.reads

pub returns-in_ok-packs-in-Chain-clause-answers : goal.returns-in_ok-packs-in-Chain-clause-answers
returns-in_ok-packs-in-Chain-clause-answers g c = λ tells.
    let objects = objects_after (g.S.Store.history c.args.disk.now) c.args.folder.now in
    let k = g.K.OpKind.meaning in
    let head = c.args.head.now in
    let known = c.args.known.now in
    let chain = c.in-Chain.chain.items in
    let loaded = c.in_ok-loaded-in-Chain.loaded.items in
    let differ : head ≢ known = name_differs head known (sym c.eq.ensures ∙ c.if-eq.false) in
    let found : IsChainAbove objects head known chain = subst (λ a. AboveAnswers objects head known (Ok a)) c.in-Chain.is (c.in_ok-chain.ensures.answers tells) in
    let are : AreLoadedOf k objects chain loaded =
    subst (λ (h : History). AreLoadedOf k (objects_after h c.args.folder.now) chain loaded) (c.in_ok-chain.ensures.unwritten tells) (c.in_ok-loaded-in-Chain.ensures.answers tells) in
    let lineages = c.in_ok-loaded-in-Chain.ensures.lineages in
    let packs : map placed_of loaded ≡ c.from_vec.result = sym (c.from_vec.ensures ∙ c.in_ok-packs-in-Chain.ensures) in
    subst (λ l. (1 ≤ length l) × IsChainTo k objects head known l) packs
    (some_pack k objects head known chain found loaded lineages differ, chain_to k objects head known chain found loaded lineages are)

pub returns-in_ok-packs-in-Chain-clause-rules : goal.returns-in_ok-packs-in-Chain-clause-rules
returns-in_ok-packs-in-Chain-clause-rules g c =
    let k = g.K.OpKind.meaning in
    let loaded = c.in_ok-loaded-in-Chain.loaded.items in
    let packs : map placed_of loaded ≡ c.from_vec.result = sym (c.from_vec.ensures ∙ c.in_ok-packs-in-Chain.ensures) in
    subst (KeepsRules k) packs (rules_placed k loaded c.in_ok-loaded-in-Chain.ensures.rules)

pub returns-in_ok-packs-in-Chain-clause-reads : goal.returns-in_ok-packs-in-Chain-clause-reads
returns-in_ok-packs-in-Chain-clause-reads g c = λ tells.
    let objects = objects_after (g.S.Store.history c.args.disk.now) c.args.folder.now in
    let before = g.S.Store.object_reads c.args.disk.now in
    let mid = g.S.Store.object_reads c.walk_above.new.disk in
    let chain = c.in-Chain.chain.items in
    let found : IsChainAbove objects c.args.head.now c.args.known.now chain = subst (λ a. AboveAnswers objects c.args.head.now c.args.known.now (Ok a)) c.in-Chain.is (c.in_ok-chain.ensures.answers tells) in
    let once : mid ≤ before + length chain = subst (λ a. IfMet (Ok a) (λ w. mid ≤ before + length w)) c.in-Chain.is c.in_ok-chain.ensures.once in
    reads_of_chain g.K.OpKind.meaning objects c.args.head.now c.args.known.now chain before mid (g.S.Store.object_reads c.load_all.new.disk) found once c.in_ok-loaded-in-Chain.ensures.reads

pub returns-in_ok-packs-in-Chain-clause-above : goal.returns-in_ok-packs-in-Chain-clause-above
returns-in_ok-packs-in-Chain-clause-above g c = λ tells.
    let objects = objects_after (g.S.Store.history c.args.disk.now) c.args.folder.now in
    let before = g.S.Store.object_reads c.args.disk.now in
    let mid = g.S.Store.object_reads c.walk_above.new.disk in
    let chain = c.in-Chain.chain.items in
    let found : IsChainAbove objects c.args.head.now c.args.known.now chain = subst (λ a. AboveAnswers objects c.args.head.now c.args.known.now (Ok a)) c.in-Chain.is (c.in_ok-chain.ensures.answers tells) in
    let once : mid ≤ before + length chain = subst (λ a. IfMet (Ok a) (λ w. mid ≤ before + length w)) c.in-Chain.is c.in_ok-chain.ensures.once in
    chain_reads g.K.OpKind.meaning objects c.args.head.now c.args.known.now chain before mid (g.S.Store.object_reads c.load_all.new.disk) found once c.in_ok-loaded-in-Chain.ensures.reads

-- ---- the whole entity

pub returns-in_err-entity-in-Whole-clause-reads : goal.returns-in_err-entity-in-Whole-clause-reads
returns-in_err-entity-in-Whole-clause-reads g c = λ tells.
    let objects = objects_after (g.S.Store.history c.args.disk.now) c.args.folder.now in
    let before = g.S.Store.object_reads c.args.disk.now in
    let mid = g.S.Store.object_reads c.walk_above.new.disk in
    let walk = c.in-Whole.walk.items in
    let found = subst (λ a. AboveAnswers objects c.args.head.now c.args.known.now (Ok a)) c.in-Whole.is (c.in_ok-chain.ensures.answers tells) in
    let once : mid ≤ before + length walk = subst (λ a. IfMet (Ok a) (λ w. mid ≤ before + length w)) c.in-Whole.is c.in_ok-chain.ensures.once in
    reads_of_all g.K.OpKind.meaning objects (c.args.head.now ∷ []) walk before mid (g.S.Store.object_reads c.read_walked.new.disk) found.0 once c.in_err-entity-in-Whole.ensures.reads

pub returns-in_err-entity-in-Whole-clause-above : goal.returns-in_err-entity-in-Whole-clause-above
returns-in_err-entity-in-Whole-clause-above g c = λ tells.
    let objects = objects_after (g.S.Store.history c.args.disk.now) c.args.folder.now in
    let found = subst (λ a. AboveAnswers objects c.args.head.now c.args.known.now (Ok a)) c.in-Whole.is (c.in_ok-chain.ensures.answers tells) in
    no_reads g.K.OpKind.meaning objects c.args.head.now c.args.known.now (g.S.Store.object_reads c.args.disk.now) (g.S.Store.object_reads c.read_walked.new.disk) found.1

pub returns-in_ok-entity-in-Whole-clause-answers : goal.returns-in_ok-entity-in-Whole-clause-answers
returns-in_ok-entity-in-Whole-clause-answers g c = λ tells.
    let objects = objects_after (g.S.Store.history c.args.disk.now) c.args.folder.now in
    let k = g.K.OpKind.meaning in
    let heads = c.args.head.now ∷ [] in
    let walk = c.in-Whole.walk.items in
    let entity = c.in_ok-entity-in-Whole.entity in
    let same = c.in_ok-chain.ensures.unwritten tells in
    let found = subst (λ a. AboveAnswers objects c.args.head.now c.args.known.now (Ok a)) c.in-Whole.is (c.in_ok-chain.ensures.answers tells) in
    let there : AreBelow (objects_after (g.S.Store.history c.walk_above.new.disk) c.args.folder.now) heads walk =
    subst (λ (h : History). AreBelow (objects_after h c.args.folder.now) heads walk) (sym same) found.0 in
    let is : IsEntity k objects c.args.id.now heads c.args.authors.now entity =
    subst (λ (h : History). IsEntity k (objects_after h c.args.folder.now) c.args.id.now heads c.args.authors.now entity) same (c.in_ok-entity-in-Whole.ensures.answers tells there) in
    (leaves_out k objects c.args.head.now c.args.known.now found.1, is)

pub returns-in_ok-entity-in-Whole-clause-reads : goal.returns-in_ok-entity-in-Whole-clause-reads
returns-in_ok-entity-in-Whole-clause-reads g c = λ tells.
    let objects = objects_after (g.S.Store.history c.args.disk.now) c.args.folder.now in
    let before = g.S.Store.object_reads c.args.disk.now in
    let mid = g.S.Store.object_reads c.walk_above.new.disk in
    let walk = c.in-Whole.walk.items in
    let found = subst (λ a. AboveAnswers objects c.args.head.now c.args.known.now (Ok a)) c.in-Whole.is (c.in_ok-chain.ensures.answers tells) in
    let once : mid ≤ before + length walk = subst (λ a. IfMet (Ok a) (λ w. mid ≤ before + length w)) c.in-Whole.is c.in_ok-chain.ensures.once in
    reads_of_all g.K.OpKind.meaning objects (c.args.head.now ∷ []) walk before mid (g.S.Store.object_reads c.read_walked.new.disk) found.0 once c.in_ok-entity-in-Whole.ensures.reads

pub returns-in_ok-entity-in-Whole-clause-above : goal.returns-in_ok-entity-in-Whole-clause-above
returns-in_ok-entity-in-Whole-clause-above g c = λ tells.
    let objects = objects_after (g.S.Store.history c.args.disk.now) c.args.folder.now in
    let found = subst (λ a. AboveAnswers objects c.args.head.now c.args.known.now (Ok a)) c.in-Whole.is (c.in_ok-chain.ensures.answers tells) in
    no_reads g.K.OpKind.meaning objects c.args.head.now c.args.known.now (g.S.Store.object_reads c.args.disk.now) (g.S.Store.object_reads c.read_walked.new.disk) found.1
