-- Where a run that is handed back stands, and the list in two of them.
pub mod Parts
pub mod Lists
