-- Whether a number stands in a list; lists cut into stretches; a look at two queues by their runs.
pub mod Has
pub mod Stretches
pub mod Queues
