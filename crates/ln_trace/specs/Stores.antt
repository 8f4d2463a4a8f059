-- The store inside a store whose saves are logged.
use Rattle.ln_trace.specs.declared.logged_store.LoggedStore.{LoggedStore}

abbrev pub inner_store : {S R : Type 0} → LoggedStore S R → S
inner_store store = store.inner
