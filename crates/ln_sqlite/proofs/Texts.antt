use Rattle.std.proofs.Common.{Result, Err, ◌≤◌, length, arith}
use Rattle.std.proofs.Common.{◌≡◌, ℕ, ℤ, pos, negsuc, List, [], ◌∷◌, codes, true, false, cond, Bool, None, Ok, refl}
use Rattle.sqlite.specs.declared.types.Value.{Value}
use Rattle.sqlite.specs.declared.types.Value.TheVariants.{Null, Int}
use Rattle.sqlite_tied.specs.Compute.{everything}
use Rattle.sqlite.specs.Listing.{understood, reads_listing}
use Rattle.sqlite.specs.Compile.{table_defined_by}
use Rattle.sqlite.specs.Term.{Term, lit, col, op2}
use Rattle.sqlite.specs.Ops.{unary}
use Rattle.sqlite_sql.specs.declared.ops.BinaryOp.TheVariants as by
use Rattle.sqlite_sql.specs.declared.ops.CompareOp.TheVariants.{Eq}
use Rattle.sqlite_value.specs.declared.keys.Collation.TheVariants.{Binary}
use Rattle.sqlite_value.specs.declared.keys.Key.{Key}
use Rattle.sqlite.specs.Cast.{cast}
use Rattle.sqlite.specs.Kind.TheVariants.{Integer}
use Rattle.sqlite.specs.Source.TheVariants.{Values}
use Rattle.sqlite.specs.Command.TheVariants.{InsertOr, Select, CreateTable}
use Rattle.sqlite_schema.specs.declared.command.Command.TheVariants.{Begin, Commit, Rollback}
use Rattle.sqlite_schema.specs.declared.schema.Schema.{Schema}
use Rattle.sqlite_resolve.specs.declared.compiled.Compiled.{Compiled}
use Rattle.sqlite_resolve.specs.declared.error.CompileError.{CompileError}
use Rattle.sqlite.specs.Query.{Query, inner, end}
use Rattle.sqlite_schema.specs.declared.command.Conflict.TheVariants.{Replace}
use Rattle.sqlite.proofs.Callers.{IsPlain, command_of, statement_of}
use Rattle.sqlite_catalog.specs.Change.{created}
use Rattle.ln_sqlite.specs.Table.{records, schema, none}

abbrev pub upsert_text : List ℕ
upsert_text = codes "INSERT OR REPLACE INTO records(id, body) VALUES (?1, ?2)"

abbrev pub create_text : List ℕ
create_text = codes "CREATE TABLE records(id BLOB PRIMARY KEY, body BLOB NOT NULL)"

abbrev pub terms : List Term
terms = lit Null ∷ col 0 0 ∷ col 0 1 ∷ []

pub upsert_is : command_of (understood schema upsert_text) ≡ InsertOr 0 Replace (Values terms 3) []
unfolding understood everything
upsert_is = refl

pub upsert_plain : IsPlain (understood schema upsert_text)
unfolding understood everything
upsert_plain = (refl, refl)

pub create_is : (command_of (understood none create_text) ≡ CreateTable)
    × (statement_of create_text (understood none create_text) ≡ create_text)
    × (table_defined_by create_text ≡ Ok records)
unfolding understood everything
create_is = (refl, refl, refl)

pub create_plain : IsPlain (understood none create_text)
unfolding understood everything
create_plain = (refl, refl)

abbrev pub begin_text : List ℕ
begin_text = codes "BEGIN"

abbrev pub commit_text : List ℕ
commit_text = codes "COMMIT"

abbrev pub roll_back_text : List ℕ
roll_back_text = codes "ROLLBACK"

-- a text of one statement, without parameters
abbrev pub IsWhole : List ℕ → Result Compiled CompileError → Type 0
IsWhole sql (Ok c) = (length sql ≤ c.tail) × (c.names ≡ [])
IsWhole sql (Err e) = ⊥

-- these mean the same in each database
pub begin_is : (s : Schema) → (command_of (understood s begin_text) ≡ Begin) × IsPlain (understood s begin_text)
unfolding understood everything
begin_is s = (refl, (refl, refl))

pub commit_is : (s : Schema) → (command_of (understood s commit_text) ≡ Commit) × IsPlain (understood s commit_text)
unfolding understood everything
commit_is s = (refl, (refl, refl))

pub roll_back_is : (s : Schema) → (command_of (understood s roll_back_text) ≡ Rollback)
    × IsPlain (understood s roll_back_text) × IsWhole roll_back_text (understood s roll_back_text)
unfolding understood everything
roll_back_is s = (refl, (refl, refl), (omega arith, refl))

-- the table beside the index of its key
pub created_is : created none records ≡ schema
unfolding understood everything
created_is = refl

either : (b : Bool) (x : Value) → cond b x x ≡ x
either true x = refl
either false x = refl

pub cast_null : cast Integer Null ≡ Null
unfolding unary
cast_null = either _ Null

pub cast_int : (n : ℤ) → cast Integer (Int n) ≡ Int n
unfolding unary
cast_int n = either _ (Int n)

-- a query of the table alone, with what a row has to meet, what is shown of it, and the order
abbrev pub plain_query : List Term → List Term → List (Term × Key) → Query
plain_query filter project order = record {
  from = inner 0 end;
  filter = filter;
  group = None;
  project = project;
  distinct = false;
  collations = [];
  order = order;
  limit = lit (Int (negsuc 0));
  offset = lit (Int (pos 0));
}

abbrev pub all_text : List ℕ
all_text = codes "SELECT id, body FROM records"

abbrev pub all_query : Query
all_query = plain_query [] (col 1 1 ∷ col 1 2 ∷ []) []

pub all_is : (command_of (understood schema all_text) ≡ Select (record { lets = []; body = all_query })
    (codes "id" ∷ codes "body" ∷ [])) × (reads_listing schema all_text ≡ false)
unfolding understood everything
all_is = (refl, refl)

pub all_plain : IsPlain (understood schema all_text)
unfolding understood everything
all_plain = (refl, refl)

abbrev pub load_text : List ℕ
load_text = codes "SELECT body FROM records WHERE id = ?1"

abbrev pub ids_text : List ℕ
ids_text = codes "SELECT id FROM records ORDER BY id"

abbrev pub load_query : Query
load_query = plain_query (op2 (by.Compare Eq Binary) (col 1 1) (col 0 0) ∷ []) (col 1 2 ∷ []) []

abbrev pub ids_query : Query
ids_query = plain_query [] (col 1 1 ∷ []) ((col 1 1, record { collation = Binary; descending = false }) ∷ [])

pub load_is : (command_of (understood schema load_text) ≡ Select (record { lets = []; body = load_query })
    (codes "body" ∷ [])) × (reads_listing schema load_text ≡ false)
unfolding understood everything
load_is = (refl, refl)

pub ids_is : (command_of (understood schema ids_text) ≡ Select (record { lets = []; body = ids_query })
    (codes "id" ∷ [])) × (reads_listing schema ids_text ≡ false)
unfolding understood everything
ids_is = (refl, refl)

pub load_plain : IsPlain (understood schema load_text)
unfolding understood everything
load_plain = (refl, refl)

pub ids_plain : IsPlain (understood schema ids_text)
unfolding understood everything
ids_plain = (refl, refl)
